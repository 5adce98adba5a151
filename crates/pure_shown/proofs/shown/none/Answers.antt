use Rattle.std.proofs.Common.{sym, subst}
use Rattle.pure_theorem.specs.Sets.{IsLabelSet}
use Rattle.pure_theorem.proofs.SetLaws.{no_labels}
use Rattle.pure_shown.proofs.shown.none.Goals as goal

pub returns : goal.returns
returns c = subst IsLabelSet (sym c.new.ensures.items) no_labels
