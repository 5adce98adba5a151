pub mod Definitions
pub mod Proofs
pub mod Pairs
