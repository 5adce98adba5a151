pub mod LinkLaws
pub mod StepLaws
pub mod NameLaws
pub mod FoundLaws
pub mod LoopLaws
pub mod ReadLaws
