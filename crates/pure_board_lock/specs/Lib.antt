pub mod History
pub mod View
pub mod Rule
pub mod Steps
pub mod Seats
pub mod Names
