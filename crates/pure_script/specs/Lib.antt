pub mod Seen
pub mod Lexemes
pub mod TextSet
pub mod Places
pub mod States
pub mod Faults
pub mod Laws
