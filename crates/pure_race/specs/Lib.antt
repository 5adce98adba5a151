pub mod Least
pub mod Lanes
