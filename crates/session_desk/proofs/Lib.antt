pub mod Lists
pub mod Longer
pub mod Rows
pub mod Told
pub mod Settled
pub mod Chained
