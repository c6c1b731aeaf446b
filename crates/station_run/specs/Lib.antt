pub mod Living
pub mod Typing
pub mod Usage
pub mod Ends
