pub mod Gate
pub mod Going
pub mod Input
pub mod Place
