pub mod Lists
pub mod Asking
pub mod Nodes
pub mod Runs
pub mod Safe
