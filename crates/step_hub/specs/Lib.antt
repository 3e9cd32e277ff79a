pub mod Steps
pub mod ServePorts
