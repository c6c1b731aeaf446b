pub mod Escapes
pub mod Pieces
pub mod ReadBack
pub mod Runs
pub mod Steps
pub mod PlainRuns
pub mod Handing
