pub mod Bindings
pub mod Placeholders
