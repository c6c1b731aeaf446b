pub mod Noting
pub mod Places
pub mod Sessions
pub mod Things
