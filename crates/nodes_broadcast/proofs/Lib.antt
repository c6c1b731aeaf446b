pub mod Spelled
pub mod Written
pub mod Heeded
pub mod Turns
pub mod Joined
pub mod EntryFaults
pub mod Faults
pub mod Names
