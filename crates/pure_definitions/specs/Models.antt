-- What the models of the code's types and their comparisons rest on.
pub mod Equality
pub mod Codes
pub mod Comparison
