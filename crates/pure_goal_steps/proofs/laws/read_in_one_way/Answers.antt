use Rattle.pure_goal_steps.proofs.ReadLaws.{read_once, one_rule}
use Rattle.pure_goal_steps.proofs.laws.read_in_one_way.Goals as goal

pub returns-clause-subgoal : goal.returns-clause-subgoal
returns-clause-subgoal c = read_once

pub returns-clause-rule : goal.returns-clause-rule
returns-clause-rule c = one_rule
