pub mod LabelLaws
pub mod RowLaws
pub mod FateLaws
pub mod JoinLaws
