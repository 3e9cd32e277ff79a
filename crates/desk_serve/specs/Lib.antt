pub mod Link
pub mod Desks
pub mod Ports
pub mod Kept
pub mod KeptPorts
