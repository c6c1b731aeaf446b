mod Marking
mod Pieces
mod Joining
