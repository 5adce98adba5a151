pub use Rattle.pure_method.proofs.Theory as Theory
pub use Rattle.pure_method.proofs.Declare as Declare
pub use Rattle.pure_method.proofs as Method
pub mod NameLaws
pub mod AgreedLaws
pub mod BeginLaws
pub mod DeclaredLaws
pub mod EndLaws
pub mod StoodLaws
pub mod OrderLaws
pub mod LimitLaws
pub mod HeaderLaws
pub mod NamedLaws
pub mod ScriptLaws
pub mod WellLaws
pub mod FollowingLaws
