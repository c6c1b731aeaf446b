pub mod Logs
pub mod Memory
pub mod Records
