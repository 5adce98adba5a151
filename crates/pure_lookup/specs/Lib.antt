pub mod Meaning
pub mod LookUps
pub mod Places
pub mod Laws
pub mod Examples
