pub use Rattle.pure_goal_step_laws.proofs.UnifyAnswers as UnifyAnswers
pub use Rattle.pure_goal_steps.proofs.Pairs as Pairs
pub use Rattle.pure_goal_steps.proofs as GoalSteps
pub use Rattle.pure_goal_step_laws.proofs as GoalStepLaws
pub mod ChainLaws
pub mod AnswerLaws
pub mod StepLaws
pub mod EndLaws
pub mod CallLaws
pub mod SettleLaws
pub mod SharedLaws
pub mod FollowLaws
pub mod RestLaws
pub mod StayLaws
pub mod TypedLaws
pub mod UseLaws
