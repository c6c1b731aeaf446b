pub mod Lasts
pub mod Remembering
pub mod Readdressing
pub mod AliasCalls
pub mod HeldFrames
