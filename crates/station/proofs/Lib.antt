mod Waiting
mod Loops
mod Going
pub mod Fetched
