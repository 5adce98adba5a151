use Rattle.pure_goal_laws.proofs.StateLaws.{subgoals_are_propositions, pairs_are_certified}
use Rattle.pure_goal_laws.proofs.laws.goal_is_certified.Goals as goal

pub returns-clause-subgoals : goal.returns-clause-subgoals
returns-clause-subgoals c = subgoals_are_propositions

pub returns-clause-pairs : goal.returns-clause-pairs
returns-clause-pairs c = pairs_are_certified
