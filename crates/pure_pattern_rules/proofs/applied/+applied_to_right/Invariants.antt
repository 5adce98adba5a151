use Rattle.std.proofs.Common.{length}
use Rattle.pure_pattern_rules.proofs.applied.+applied_to_right.Given as goal

abbrev pub decreases-applied_to_right : goal.decreases-applied_to_right
decreases-applied_to_right l = length l.zs.now
