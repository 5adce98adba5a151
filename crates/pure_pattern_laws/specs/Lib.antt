pub mod Patterns
pub mod Places
pub mod Treatment
pub mod Steps
pub mod Answers
pub mod Putting
pub mod Laws
pub mod Examples
