pub mod Scope
pub mod Prefix
pub mod Lifting
pub mod Steps
pub mod States
pub mod Facts
