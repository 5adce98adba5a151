pub mod Modulo
pub mod Difference
pub mod Answer
pub mod Laws
pub mod Trivial
pub mod Smash
