pub use Rattle.pure_session_laws.proofs.Theory as Theory
pub use Rattle.pure_session_laws.proofs.Declare as Declare
pub use Rattle.pure_session_laws.proofs.Method as Method
pub use Rattle.pure_session_laws.proofs as SessionLaws
pub mod PartLaws
pub mod FoldLaws
pub mod StepLaws
pub mod KeptLaws
pub mod TextLaws
pub mod OrderedLaws
pub mod OrderlyLaws
pub mod NoteLaws
pub mod ForkLaws
pub mod PromiseLaws
pub mod ProvableLaws
pub mod ConflictLaws
pub mod OnceLaws
pub mod FrontLaws
pub mod StatementLaws
pub mod LabelLaws
pub mod OwnLaws
pub mod OwnerLaws
pub mod EndLaws
pub mod ParentLaws
pub mod CloseLaws
pub mod OneLemmaLaws
pub mod FirstLaws
