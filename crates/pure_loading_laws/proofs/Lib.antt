mod LexemeLaws
mod OutcomeLaws
mod GraphLaws
mod OrderLaws
mod NameLaws
mod ListingLaws
mod SessionLaws
pub mod PlainLaws
