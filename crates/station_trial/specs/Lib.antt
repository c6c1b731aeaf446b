pub mod Gifts
pub mod Outlets
pub mod Stations
pub mod Starting
pub mod Trials
pub mod Directing
pub mod Standing
