pub mod Kept
pub mod Sendings
pub mod Told
