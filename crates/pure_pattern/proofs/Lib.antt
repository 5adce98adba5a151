pub mod ListLaws
pub mod PartLaws
pub mod MadeLaws
pub mod StepLaws
pub mod RunLaws
pub mod GivenLaws
pub mod AnswerLaws
pub mod FollowLaws
