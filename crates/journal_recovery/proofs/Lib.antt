mod Behind
mod Causes
mod Exits
mod InParts
mod Moments
mod Packed
mod TakenIn
pub mod WholeEntries
