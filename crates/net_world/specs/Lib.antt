pub mod Running
pub mod Agents
