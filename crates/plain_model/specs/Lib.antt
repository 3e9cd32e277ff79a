pub mod Outcome
pub mod Alteration
pub mod Judgement
