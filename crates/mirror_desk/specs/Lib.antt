pub mod Request
pub mod Level
pub mod Setting
pub mod Gives
pub mod Answers
pub mod Desk
pub mod Feeds
