use Rattle.pure_goal_laws.proofs.StrippingLaws.{stripped_rule}
use Rattle.pure_goal_laws.proofs.LiftingLaws.{lifted_rule}
use Rattle.pure_goal_laws.proofs.laws.rule_is_lifted.Goals as goal

pub returns-clause-stripped : goal.returns-clause-stripped
returns-clause-stripped c = stripped_rule

pub returns-clause-lifted : goal.returns-clause-lifted
returns-clause-lifted c = lifted_rule
