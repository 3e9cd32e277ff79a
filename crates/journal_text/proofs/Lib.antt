mod Complete
mod Legal
mod LinesRead
mod PlainLine
pub mod Whole
