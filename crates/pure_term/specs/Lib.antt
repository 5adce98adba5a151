pub mod TermView
pub mod TermKept
pub mod TermFalls
pub mod Grown
pub mod Scope
pub mod TypeAnswer
pub mod TermPlaces
pub mod TermBound
