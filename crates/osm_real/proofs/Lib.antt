mod Keepers
mod KeptBytes
mod KnownLemmas
