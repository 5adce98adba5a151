pub mod Held
pub mod Served
pub mod Seated
pub mod Ends
pub mod Executed
