pub mod Loading
pub mod Plain
