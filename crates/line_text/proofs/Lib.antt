pub mod Cuts
pub mod LineCuts
pub mod LinesOf
mod Parted
