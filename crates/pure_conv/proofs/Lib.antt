pub mod AnswerLaws
pub mod RuleLaws
pub mod UnfoldingLaws
pub mod GivenLaws
pub mod ConvertedLaws
pub mod BecomingLaws
