pub mod Visited
pub mod Scanned
