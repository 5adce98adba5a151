pub mod Counts
pub mod Escapes
pub mod Fields
pub mod Names
pub mod Numbers
pub mod Short
