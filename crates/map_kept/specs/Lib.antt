pub mod Run
pub mod Followed
