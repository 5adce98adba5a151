pub mod Put
pub mod Covered
pub mod Laws
