pub mod Held
pub mod Treated
pub mod Gathered
pub mod Old
pub mod Retyped
pub mod Direct
