pub mod Judged
pub mod Blames
pub mod LateLines
pub mod Verdicts
