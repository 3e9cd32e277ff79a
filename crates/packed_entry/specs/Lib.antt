pub mod Packed
pub mod Read
pub mod Typed
pub mod Kept
