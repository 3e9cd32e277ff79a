mod OneUser
mod RowSteps
mod Rows
mod Counts
mod Parts
mod Parted
