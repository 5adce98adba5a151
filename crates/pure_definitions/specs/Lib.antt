pub mod Names
pub mod Types
pub mod Terms
pub mod Declarations
pub mod Reduction
pub mod Models
