pub mod Steps
pub mod LongForms
pub mod LawsSteps
pub mod LawsLong
