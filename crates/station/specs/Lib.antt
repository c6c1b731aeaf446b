pub mod Outs
pub mod States
pub mod Fetching
pub mod Standing
