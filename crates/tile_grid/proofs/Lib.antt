mod Counts
mod Exchanged
mod Columns
mod Between
mod Found
mod Touched
