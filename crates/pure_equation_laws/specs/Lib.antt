pub mod Equated
pub mod Laws
pub mod Examples
