use Rattle.pure_goal_laws.proofs.StepLaws.{step_is_derivable}
use Rattle.pure_goal_laws.proofs.laws.step_is_derivable.Goals as goal

pub returns : goal.returns
returns c = step_is_derivable
