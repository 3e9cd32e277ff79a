pub mod Cell
pub mod Tile
pub mod Grid
pub mod Told
