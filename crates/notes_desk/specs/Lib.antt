pub mod Routes
pub mod Bodies
pub mod Request
pub mod Desk
