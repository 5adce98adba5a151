use Rattle.std.proofs.Common.{arith}
use Rattle.pure_goal_laws.specs.Prefix.{parameters}
use Rattle.pure_goal_rules.specs.Shown.{shown}
use Rattle.pure_goal_rules.proofs.StayLaws.{lifted_nowhere}
use Rattle.pure_goal_rules.proofs.lifting.lifted.Goals as goal

pub returns-then-branch-eq0 : goal.returns-then-branch-eq0
returns-then-branch-eq0 c = rw (lifted_nowhere (parameters (shown c.args.items.now)) c.args.t.now (omega arith)) c.copy.ensures
