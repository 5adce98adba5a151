use Rattle.pure_goal_laws.proofs.JustificationLaws.{by_rule, by_assumption, by_equation}
use Rattle.pure_goal_laws.proofs.EliminationLaws.{by_elimination, by_destruction}
use Rattle.pure_goal_laws.proofs.laws.subgoal_is_justified.Goals as goal

pub returns-clause-rule : goal.returns-clause-rule
returns-clause-rule c = by_rule

pub returns-clause-assumption : goal.returns-clause-assumption
returns-clause-assumption c = by_assumption

pub returns-clause-elimination : goal.returns-clause-elimination
returns-clause-elimination c = by_elimination

pub returns-clause-destruction : goal.returns-clause-destruction
returns-clause-destruction c = by_destruction

pub returns-clause-equation : goal.returns-clause-equation
returns-clause-equation c = by_equation
