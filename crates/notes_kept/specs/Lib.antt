pub mod Run
pub mod Followed
pub mod More
