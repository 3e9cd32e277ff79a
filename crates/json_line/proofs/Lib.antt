pub mod Found
pub mod Hearing
pub mod Onto
pub mod Sent
