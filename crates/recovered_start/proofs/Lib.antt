pub mod Unfit
pub mod Runs
