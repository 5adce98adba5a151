pub mod Pairs
pub mod Powers
pub mod View
pub mod Runs
