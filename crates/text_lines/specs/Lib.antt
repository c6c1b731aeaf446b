pub mod Lines
pub mod UserLines
