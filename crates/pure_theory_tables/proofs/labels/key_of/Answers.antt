use Rattle.std.proofs.Common.{refl}
use Rattle.pure_theory_tables.specs.Keys.{label_key}
use Rattle.pure_theory_tables.proofs.labels.key_of.Goals as goal

pub returns : goal.returns
unfolding label_key
returns c = rw (← c.label.view_is) refl
