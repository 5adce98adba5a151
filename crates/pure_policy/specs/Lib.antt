pub mod Asked
pub mod Heeded
pub mod Policy
pub mod Laws
