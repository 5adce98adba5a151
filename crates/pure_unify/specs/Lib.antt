pub mod Images
pub mod Later
pub mod Heads
pub mod Unified
pub mod Unsolved
pub mod Resolved
pub mod Frames
pub mod Clashes
