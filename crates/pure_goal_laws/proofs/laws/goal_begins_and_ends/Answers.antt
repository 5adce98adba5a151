use Rattle.pure_goal_laws.proofs.StateLaws.{start_is_derivable, end_is_derivable}
use Rattle.pure_goal_laws.proofs.laws.goal_begins_and_ends.Goals as goal

pub returns-clause-start : goal.returns-clause-start
returns-clause-start c = start_is_derivable

pub returns-clause-end : goal.returns-clause-end
returns-clause-end c = end_is_derivable
