pub mod Answered
pub mod Held
pub mod Given
pub mod Reached
pub mod Followed
