-- What a theory declares, and what is certified by it.
pub mod Decl
pub mod Certified
