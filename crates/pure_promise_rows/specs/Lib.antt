pub mod Earlier
pub mod Grounds
pub mod Pairs
