mod Serving
pub mod Sendable
