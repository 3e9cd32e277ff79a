mod Each
mod Steps
mod Positions
mod Placed
mod Looks
mod Reading
mod Built
mod NamesBefore
mod OwnParts
mod Placeholders
pub mod WellFormed
mod Again
mod Naming
mod RowsNext
