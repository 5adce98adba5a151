-- Terms: bound variables, typing, substitution, limits.
pub mod Term
pub mod Limits
pub mod Bounds
pub mod Conditions
pub mod Typing
pub mod Subst
pub mod Measures
