pub mod Rows
pub mod Users
pub mod Who
pub mod Drafts
