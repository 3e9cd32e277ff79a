pub mod Journals
pub mod Serving
