pub mod Exit
pub mod Message
pub mod Words
pub mod Written
