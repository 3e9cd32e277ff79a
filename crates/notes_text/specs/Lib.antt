pub mod Line
pub mod Read
pub mod Text
