pub mod Lines
pub mod Answers
pub mod Progress
pub mod Laws
