pub mod Asking
pub mod Rows
pub mod Sessions
pub mod Feeds
