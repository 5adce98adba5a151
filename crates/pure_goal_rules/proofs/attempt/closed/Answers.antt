use Rattle.std.proofs.Common.{arith}
use Rattle.pure_goal_rules.specs.Shown.{shown}
use Rattle.pure_goal_rules.proofs.StayLaws.{closed_nowhere}
use Rattle.pure_goal_rules.proofs.attempt.closed.Goals as goal

pub returns-then-branch-eq0 : goal.returns-then-branch-eq0
returns-then-branch-eq0 c = closed_nowhere (shown c.args.items.now) c.args.left c.args.right (omega arith)
