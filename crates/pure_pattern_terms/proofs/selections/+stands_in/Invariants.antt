use Rattle.std.proofs.Common.{length}
use Rattle.pure_pattern_terms.proofs.selections.+stands_in.Given as goal

abbrev pub decreases-stands_in : goal.decreases-stands_in
decreases-stands_in l = length l.ws.now
