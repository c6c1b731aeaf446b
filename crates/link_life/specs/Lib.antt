pub mod Lines
pub mod Ends
pub mod Lives
pub mod Reports
pub mod Standing
pub mod Laws
