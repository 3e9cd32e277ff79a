pub mod Changeset
pub mod Timely
pub mod Kept
pub mod Known
pub mod Works
