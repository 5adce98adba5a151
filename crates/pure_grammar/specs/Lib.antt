pub mod Tokens
pub mod Theories
pub mod Terms
