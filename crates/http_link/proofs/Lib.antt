pub mod TurnLemmas
pub mod LinkLemmas
pub mod InputLemmas
pub mod ServesLemmas
pub mod OrderLemmas
