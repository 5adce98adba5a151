pub mod Entries
pub mod Reach
pub mod Seen
pub mod Laws
