pub mod Kept
pub mod KeptPorts
