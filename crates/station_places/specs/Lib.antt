pub mod Consoles
pub mod Ends
pub mod Links
pub mod Sides
pub mod Looks
pub mod Taking
pub mod Giving
pub mod Laws
