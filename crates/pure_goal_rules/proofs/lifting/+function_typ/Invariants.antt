use Rattle.std.proofs.Common.{length}
use Rattle.pure_goal_rules.proofs.lifting.+function_typ.Given as goal

abbrev pub decreases-function_typ : goal.decreases-function_typ
decreases-function_typ l = length l.items.now
