pub mod Judging
pub mod Machine
pub mod Copied
pub mod Found
pub mod Laws
pub mod Kept
