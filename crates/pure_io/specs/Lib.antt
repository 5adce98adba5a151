pub mod Counts
pub mod Entries
pub mod Memory
pub mod Outside
pub mod Reading
