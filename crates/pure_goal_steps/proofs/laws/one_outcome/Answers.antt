use Rattle.pure_goal_steps.proofs.FollowsLaws.{becomes-once}
use Rattle.pure_goal_steps.proofs.OneOutcomeLaws.{rule_once, elimination_once, destruction_once, assumption_once, prefer_once, defer_once, conversion_once}
use Rattle.pure_goal_steps.proofs.laws.one_outcome.Goals as goal

pub returns-clause-begins : goal.returns-clause-begins
returns-clause-begins c C = becomes-once _

pub returns-clause-rule : goal.returns-clause-rule
returns-clause-rule c = rule_once

pub returns-clause-elimination : goal.returns-clause-elimination
returns-clause-elimination c = elimination_once

pub returns-clause-destruction : goal.returns-clause-destruction
returns-clause-destruction c = destruction_once

pub returns-clause-assumption : goal.returns-clause-assumption
returns-clause-assumption c = assumption_once

pub returns-clause-prefer : goal.returns-clause-prefer
returns-clause-prefer c = prefer_once

pub returns-clause-defer : goal.returns-clause-defer
returns-clause-defer c = defer_once

pub returns-clause-conversion : goal.returns-clause-conversion
returns-clause-conversion c = conversion_once
