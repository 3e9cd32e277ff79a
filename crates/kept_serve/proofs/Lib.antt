pub mod Working
pub mod Serving
pub mod GoesOn
pub mod Leaving
