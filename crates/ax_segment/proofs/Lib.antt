pub mod Cutting
pub mod Joins
pub mod Prefix
pub mod Kept
