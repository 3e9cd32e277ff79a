pub mod Mirrors
pub mod Serve
pub mod Run
