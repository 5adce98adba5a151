pub mod Heeded
pub mod Laws
pub mod Examples
