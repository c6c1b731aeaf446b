pub mod Lives
pub mod Standing
