pub mod Shown
pub mod Rules
pub mod Attempts
