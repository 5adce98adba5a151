pub mod DerivedLaws
pub mod ReductionLaws
pub mod ClosedLaws
