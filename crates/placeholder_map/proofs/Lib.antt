pub mod Inserted
mod Vectors
