pub mod Words
pub mod Usage
pub mod Traced
pub mod Look
