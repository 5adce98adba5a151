use Rattle.std.proofs.Common.{sym, subst}
use Rattle.pure_theorem.specs.Sets.{IsTermSet, IsLabelSet}
use Rattle.pure_theorem.proofs.SetLaws.{no_terms, no_labels}
use Rattle.pure_method.proofs.unfold.unchanged.Goals as goal

pub invariant_of-result : goal.invariant_of-result
invariant_of-result c = (subst IsTermSet (sym c.new.ensures.items) no_terms, subst IsLabelSet (sym c.new-3.ensures.items) no_labels)
