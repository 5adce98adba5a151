use Rattle.pure_goal_laws.proofs.StateLaws.{exchanged_is_derivable, reordered_is_derivable, preferred_is_derivable, deferred_is_derivable}
use Rattle.pure_goal_laws.proofs.laws.subgoals_are_exchanged.Goals as goal

pub returns-clause-exchanged : goal.returns-clause-exchanged
returns-clause-exchanged c = exchanged_is_derivable

pub returns-clause-reordered : goal.returns-clause-reordered
returns-clause-reordered c = reordered_is_derivable

pub returns-clause-preferred : goal.returns-clause-preferred
returns-clause-preferred c = preferred_is_derivable

pub returns-clause-deferred : goal.returns-clause-deferred
returns-clause-deferred c = deferred_is_derivable
