pub mod Ports
pub mod Seated
