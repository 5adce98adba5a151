use Rattle.std.proofs.Common.{length}
use Rattle.pure_unify.proofs.clash.+are_clashing.Given as goal

abbrev pub decreases-are_clashing : goal.decreases-are_clashing
decreases-are_clashing l = length l.pairs.now
