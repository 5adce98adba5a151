pub mod Found
pub mod Typs
pub mod Room
pub mod Images
