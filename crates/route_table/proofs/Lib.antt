mod TargetLemmas
mod ParameterLemmas
mod RouteLemmas
mod Vectors
mod EachRoute
mod RequestLines
mod Seeking
mod Nowhere
pub mod Sendable
