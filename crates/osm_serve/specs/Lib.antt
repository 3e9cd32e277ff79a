pub mod Tell
pub mod Sending
pub mod OneThread
pub mod Played
pub mod Measure
pub mod Export
pub mod Replay
pub mod Run
