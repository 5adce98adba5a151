pub mod StepLaws
pub mod SessionLaws
