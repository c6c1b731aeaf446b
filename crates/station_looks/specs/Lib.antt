pub mod Abouts
pub mod Nodes
pub mod Naming
pub mod Ports
pub mod Ended
pub mod Reached
pub mod Rows
pub mod Replies
