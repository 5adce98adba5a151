use Rattle.std.proofs.Common.{length}
use Rattle.pure_goal_rules.proofs.build.+behind.Given as goal

abbrev pub decreases-behind : goal.decreases-behind
decreases-behind l = length l.items.now
