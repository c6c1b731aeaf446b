mod Items
mod Pieces
mod Reading
