-- What the definitions mean: the statements of the laws.
pub mod Contents
pub mod Derivable
pub mod Proves
pub mod Inferences
pub mod Equality
pub mod Quantification
pub mod Substitution
pub mod Promises
pub mod Maps
pub mod BuiltFacts
pub mod Tree
pub mod Conclusion
pub mod Parts
pub mod Names
