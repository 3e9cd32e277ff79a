pub mod Device
pub mod History
pub mod Settled
pub mod Whole
