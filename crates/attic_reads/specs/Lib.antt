pub mod Attic
