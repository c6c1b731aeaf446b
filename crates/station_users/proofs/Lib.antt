pub mod Going
pub mod Halls
pub mod Loops
pub mod Lines
pub mod Bridging
pub mod Turning
