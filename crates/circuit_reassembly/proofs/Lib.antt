pub mod Pieces
pub mod Gathers
