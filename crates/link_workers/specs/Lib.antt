pub mod Back
pub mod Port
pub mod Workers
pub mod Joined
pub mod Seats
