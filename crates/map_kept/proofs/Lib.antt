pub mod Journals
pub mod Sendable
pub mod Serving
