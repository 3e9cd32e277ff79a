pub mod Prefixes
pub mod Calls
pub mod Numbers
pub mod Legal
pub mod Soundness
pub mod Stages
pub mod Told
