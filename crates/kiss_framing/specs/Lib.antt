pub mod Feeding
pub mod Laws
pub mod Stepping
pub mod Stream
