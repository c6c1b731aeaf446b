pub mod Drawn
pub mod TextLines
pub mod GoodFiles
