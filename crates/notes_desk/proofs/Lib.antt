pub mod Positions
pub mod Read
pub mod Rows
pub mod Told
