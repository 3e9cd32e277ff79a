pub mod Near
pub mod Worked
