use Rattle.std.proofs.Common.{ap}
use Rattle.std.specs.declared.alloc.Global.{Global}
use Rattle.std.specs.declared.vec.Vec.{Vec}
use Rattle.std.proofs.Common.{ℕ}
use Rattle.pure_theory_tables.proofs.LabelLaws.{kept_same}
use Rattle.pure_theory_tables.proofs.labels.Labels.share.Goals as goal

pub returns : goal.returns
returns c = kept_same _ _ _ _ c.in_ok-by_key.ensures (ap (λ (v : Vec ℕ Global). v.items) c.in_ok-rest.ensures)
