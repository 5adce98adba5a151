pub mod Treated
pub mod Parts
pub mod Flexible
