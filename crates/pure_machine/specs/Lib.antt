pub mod Policy
pub mod State
pub mod Step
pub mod Seen
pub mod Buckets
pub mod Parts
pub mod Calls
