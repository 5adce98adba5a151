use Rattle.std.proofs.Common.{sym, subst}
use Rattle.pure_theorem.specs.Sets.{IsLabelSet}
use Rattle.pure_theorem.proofs.SetLaws.{no_labels}
use Rattle.pure_conv.proofs.constants.no_labels.Goals as goal

pub returns-clause-set : goal.returns-clause-set
returns-clause-set c = subst IsLabelSet (sym c.new.ensures.items) no_labels
