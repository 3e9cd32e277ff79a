pub mod Header
pub mod Intakes
pub mod Judged
pub mod Parts
pub mod Restarts
pub mod TakenUp
