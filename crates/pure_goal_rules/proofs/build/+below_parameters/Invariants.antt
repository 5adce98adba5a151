use Rattle.std.proofs.Common.{length}
use Rattle.pure_goal_rules.proofs.build.+below_parameters.Given as goal

abbrev pub decreases-below_parameters : goal.decreases-below_parameters
decreases-below_parameters l = length l.items.now
