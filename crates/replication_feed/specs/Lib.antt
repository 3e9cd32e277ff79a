pub mod Piece
pub mod Text
