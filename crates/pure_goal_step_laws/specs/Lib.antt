pub use Rattle.pure_unify_answers.specs as UnifyAnswers
pub mod Laws
