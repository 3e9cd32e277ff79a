pub mod Methods
pub mod Paths
pub mod Targets
pub mod Details
pub mod Parameters
pub mod Calls
