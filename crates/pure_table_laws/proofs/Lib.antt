pub mod JoinedLaws
pub mod RowLaws
pub mod StandingLaws
pub mod PromiseLaws
pub mod FirstLaws
