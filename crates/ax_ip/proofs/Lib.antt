pub mod Names
pub mod Words
pub mod Arps
pub mod LongestMatch
pub mod Aged
pub mod Hops
