use Rattle.std.proofs.Common.{length}
use Rattle.pure_rewrite.proofs.rewriting.+are_certified.Given as goal

abbrev pub decreases-are_certified : goal.decreases-are_certified
decreases-are_certified l = length l.binds.now
