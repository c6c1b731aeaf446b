pub mod Saying
pub mod Directives
