pub mod Methods
pub mod First
pub mod Proofs
pub mod Codes
pub mod Answers
