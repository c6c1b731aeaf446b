pub mod ToldLines
pub mod Reports
pub mod Reporting
