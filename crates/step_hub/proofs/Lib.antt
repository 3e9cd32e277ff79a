pub mod Beginnings
pub mod Joined
mod Working
