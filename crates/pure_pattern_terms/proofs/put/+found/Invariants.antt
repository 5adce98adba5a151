use Rattle.std.proofs.Common.{length}
use Rattle.pure_pattern_terms.proofs.put.+found.Given as goal

abbrev pub decreases-found : goal.decreases-found
decreases-found l = length l.binds.now
