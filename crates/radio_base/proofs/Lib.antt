pub mod ClockLemmas
pub mod MemoryLemmas
pub mod Places
pub mod Each
