pub mod OriginLaws
pub mod TheoryLaws
pub mod ToldLaws
pub mod OrderLaws
pub mod JoinLaws
pub mod BeforeLaws
pub mod WholeLaws
