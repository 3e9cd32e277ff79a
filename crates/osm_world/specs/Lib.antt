pub mod Records
pub mod Beds
pub mod World
