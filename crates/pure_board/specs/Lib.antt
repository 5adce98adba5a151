pub mod Course
pub mod Sight
pub mod Taken
pub mod Tokens
pub mod Boards
