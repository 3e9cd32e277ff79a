pub mod RowLemmas
pub mod LineLemmas
mod Vectors
