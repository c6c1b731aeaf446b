pub mod Keys
pub mod Pairs
pub mod Places
pub mod Plan
pub mod Lines
pub mod Live
pub mod Networks
pub mod Laws
