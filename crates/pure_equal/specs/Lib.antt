pub mod Equivalence
pub mod Congruence
pub mod Propositions
pub mod Reduction
