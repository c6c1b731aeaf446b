pub mod Lists
pub mod Documents
