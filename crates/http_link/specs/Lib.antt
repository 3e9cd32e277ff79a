pub mod Exchange
pub mod Desk
pub mod Refusal
pub mod Turns
pub mod Turn
pub mod Input
pub mod Link
pub mod Order
