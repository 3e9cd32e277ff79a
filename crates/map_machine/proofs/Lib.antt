pub mod Journals
pub mod RowSteps
mod Copies
pub mod Told
pub mod PlanSteps
pub mod KeepLemmas
