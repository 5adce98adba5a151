pub mod Hands
pub mod Seen
