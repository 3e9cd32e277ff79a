pub mod Values
pub mod Commands
pub mod Found
pub mod Words
