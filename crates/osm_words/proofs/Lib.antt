pub mod Finding
mod Mirrors
mod Vectors
