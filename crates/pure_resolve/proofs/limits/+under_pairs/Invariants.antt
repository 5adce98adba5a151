use Rattle.std.proofs.Common.{length}
use Rattle.pure_resolve.proofs.limits.+under_pairs.Given as goal

abbrev pub decreases-under_pairs : goal.decreases-under_pairs
decreases-under_pairs l = length l.pairs.now
