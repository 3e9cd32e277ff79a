pub mod Keeper
pub mod Stream
