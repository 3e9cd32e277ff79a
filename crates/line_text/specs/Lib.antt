pub mod Cut
pub mod Found
pub mod Lines
pub mod OneLine
