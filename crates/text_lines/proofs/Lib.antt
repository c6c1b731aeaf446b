pub mod Cuts
pub mod FirstWords
pub mod UserLines
pub mod Values
