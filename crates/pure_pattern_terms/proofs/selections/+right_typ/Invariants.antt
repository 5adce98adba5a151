use Rattle.std.proofs.Common.{length}
use Rattle.pure_pattern_terms.proofs.selections.+right_typ.Given as goal

abbrev pub decreases-right_typ : goal.decreases-right_typ
decreases-right_typ l = length l.zs.now
