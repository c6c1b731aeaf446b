pub mod Lists
pub mod Verdicts
pub mod ByBook
pub mod Ends
pub mod Sendings
pub mod Causes
pub mod Judging
pub mod Standing
