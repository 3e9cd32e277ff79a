pub mod Serving
pub mod Measuring
pub mod SentLemmas
pub mod DoneLemmas
pub mod PlayLemmas
pub mod Replaying
