pub mod Packets
pub mod Arps
pub mod Routes
pub mod Machine
pub mod Laws
