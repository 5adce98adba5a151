pub mod Solutions
pub mod Ends
pub mod Laws
