pub mod PrefixLaws
pub mod RuleLaws
pub mod AttemptLaws
pub mod OwnLongLaws
pub mod StayLaws
