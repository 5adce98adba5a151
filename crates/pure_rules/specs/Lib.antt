pub mod Facts
pub mod Implication
pub mod Quantification
