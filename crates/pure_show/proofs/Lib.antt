pub mod LineLaws
pub mod ProgressLaws
pub mod AnswerLaws
