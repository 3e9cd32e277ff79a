pub mod Journal
pub mod Paths
pub mod Outlets
pub mod Core
pub mod Sound
pub mod Stages
