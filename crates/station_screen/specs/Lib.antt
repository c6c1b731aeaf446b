pub mod Screens
pub mod Standing
