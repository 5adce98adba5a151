pub mod Promises
pub mod Joined
pub mod Places
pub mod Uncancelled
