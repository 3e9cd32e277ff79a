pub mod Judged
pub mod Lists
pub mod Near
pub mod Placed
pub mod Plans
mod Rows
pub mod Sent
