pub mod Parts
pub mod Proofs
pub mod Marks
pub mod Found
pub mod Seen
pub mod Laws
pub mod Idents
pub mod Stages
