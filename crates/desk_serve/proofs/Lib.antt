pub mod Sound
pub mod Serving
pub mod Joined
pub mod Closing
pub mod Working
pub mod Keeping
pub mod KeptJoined
pub mod KeptWorking
