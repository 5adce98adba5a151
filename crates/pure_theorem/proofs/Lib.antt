pub mod SetLaws
pub mod FirstLaws
pub mod ShapeLaws
pub mod AnswerLaws
pub mod ClosedLaws
pub mod VariableLaws
pub mod WithinLaws
