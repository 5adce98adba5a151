use Rattle.std.proofs.Common.{sym, subst}
use Rattle.pure_theorem.specs.Sets.{IsTermSet}
use Rattle.pure_theorem.proofs.SetLaws.{no_terms}
use Rattle.pure_replay.proofs.conclusion.alone.Goals as goal

pub invariant_of-result : goal.invariant_of-result
invariant_of-result c = subst IsTermSet (sym c.new.ensures.items) no_terms
