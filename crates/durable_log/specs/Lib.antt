pub mod Held
pub mod Receipts
