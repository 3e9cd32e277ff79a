pub mod Places
pub mod Said
pub mod Fed
pub mod Reached
