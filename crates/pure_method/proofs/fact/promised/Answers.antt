use Rattle.std.proofs.Common.{sym, subst}
use Rattle.pure_theorem.specs.Sets.{IsTermSet, IsLabelSet}
use Rattle.pure_theorem.proofs.SetLaws.{no_terms, one_label}
use Rattle.pure_method.proofs.fact.promised.Goals as goal

pub invariant_of-result : goal.invariant_of-result
invariant_of-result c = (subst IsTermSet (sym c.new.ensures.items) no_terms, subst IsLabelSet (sym c.in_ok-rests.ensures.items) (one_label c.args.label))
