pub use Rattle.pure_goal_step_laws.specs.UnifyAnswers as UnifyAnswers
pub use Rattle.pure_goal_steps.specs.Pairs as Pairs
pub use Rattle.pure_goal_steps.specs as GoalSteps
pub use Rattle.pure_goal_step_laws.specs as GoalStepLaws
pub mod Goals
pub mod Ending
pub mod Settled
pub mod Premises
pub mod Uses
pub mod Below
