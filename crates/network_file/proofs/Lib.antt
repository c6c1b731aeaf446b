pub mod KeyRanges
pub mod Prompts
pub mod Ranges
pub mod Fitting
pub mod Marks
pub mod Declared
