use Rattle.std.proofs.Common.{sym, subst}
use Rattle.pure_theorem.specs.Sets.{IsLabelSet}
use Rattle.pure_theorem.proofs.SetLaws.{one_label}
use Rattle.pure_shown.proofs.shown.one.Goals as goal

pub returns : goal.returns
returns c = subst IsLabelSet (sym c.in_ok-labels.ensures.items) (one_label _)
