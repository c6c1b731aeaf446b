pub mod Texts
pub mod Soaking
