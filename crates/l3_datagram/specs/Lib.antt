pub mod PlainCarriers
pub mod PlainRuns
pub mod Datagrams
pub mod Faults
pub mod Routers
pub mod Network
pub mod Onward
