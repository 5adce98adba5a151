pub mod Codes
pub mod Commands
pub mod Line
pub mod Reader
pub mod Table
pub mod Values
pub mod Words
