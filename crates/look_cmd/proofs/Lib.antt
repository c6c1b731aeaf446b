pub mod Hearing
pub mod Commands
pub mod Ending
