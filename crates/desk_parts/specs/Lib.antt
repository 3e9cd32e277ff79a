pub mod Media
pub mod Callers
pub mod Faults
pub mod Replies
pub mod Answered
pub mod Laws
