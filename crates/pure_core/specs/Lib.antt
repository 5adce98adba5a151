pub mod Turns
pub mod Legal
pub mod Replies
pub mod Laws
