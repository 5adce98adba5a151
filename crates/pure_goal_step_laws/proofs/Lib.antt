pub use Rattle.pure_unify_answers.proofs as UnifyAnswers
pub mod IndexLaws
pub mod ClosedLaws
pub mod AttemptLaws
pub mod UnifiedLaws
