pub mod Replaced
pub mod Unfold
pub mod Laws
