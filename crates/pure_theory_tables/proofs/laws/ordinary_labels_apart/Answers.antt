use Rattle.pure_theory_tables.proofs.KeyLaws.{ordinary_labels_apart as apart}
use Rattle.pure_theory_tables.proofs.laws.ordinary_labels_apart.Goals as goal

pub returns : goal.returns
returns c = apart
