pub mod Values
pub mod Model
pub mod Laws
