pub mod Read
pub mod Met
