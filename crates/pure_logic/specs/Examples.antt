-- What the definitions mean, by example.
pub mod Theory
pub mod Contents
pub mod Nodes
pub mod Underivable
pub mod Theorems
pub mod Fulfilments
