pub mod Fragments
pub mod Kept
pub mod Answering
pub mod Holding
pub mod Laws
