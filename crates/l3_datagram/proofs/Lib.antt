pub mod Steps
pub mod Spelling
pub mod Faults
pub mod Forwarding
pub mod Offers
