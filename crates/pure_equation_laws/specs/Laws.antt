-- What the definitions mean: the statements of the laws.
pub mod Sides
pub mod Kept
pub mod Reduction
pub mod Nodes
pub mod Proved
