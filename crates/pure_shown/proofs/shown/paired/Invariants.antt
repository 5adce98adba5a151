use Rattle.std.proofs.Common.{length}
use Rattle.pure_shown.proofs.shown.paired.Given as goal

abbrev pub decreases-loop-right : goal.decreases-loop-right
decreases-loop-right l = length l.terms.items
