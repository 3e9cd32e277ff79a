pub mod Numbers
pub mod Upload
pub mod Request
pub mod Left
pub mod Users
pub mod Figures
pub mod Summary
