pub mod Places
pub mod Slices
pub mod Lent
pub mod Lines
pub mod Bests
