pub mod Gathering
pub mod Joining
pub mod Laws
pub mod Pushing
pub mod Segments
pub mod Splitting
