pub mod Headings
pub mod Readdressed
pub mod Lasts
pub mod Known
pub mod Hearing
pub mod Peers
pub mod Holding
pub mod Laws
