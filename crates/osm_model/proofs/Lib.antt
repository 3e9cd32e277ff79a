pub mod Steps
pub mod References
pub mod Versions
pub mod Underway
pub mod Made
pub mod Advances
pub mod Told
pub mod Asked
pub mod Replayed
pub mod Changed
pub mod Stamped
pub mod Past
pub mod Gathered
pub mod Taken
mod Rows
mod ReadRows
