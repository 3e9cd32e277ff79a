pub mod Faults
pub mod Kept
pub mod Line
pub mod Lines
pub mod Read
pub mod Text
pub mod Version
