pub mod Exit
pub mod OnLink
pub mod Users
pub mod Standard
pub mod Listening
pub mod Words
