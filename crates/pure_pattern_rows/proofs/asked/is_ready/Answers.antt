use Rattle.std.proofs.Common.{◌∙◌, sym}
use Rattle.pure_definitions.specs.Models.Equality.{typ_eq-same}
use Rattle.pure_pattern_rows.proofs.SideLaws.{ready-where}
use Rattle.pure_pattern_rows.proofs.asked.is_ready.Goals as goal

pub returns : goal.returns
returns c =
    rw (← c.pair.view_is)
    (ready-where (record { left = c.pair.inside.left; right = c.pair.inside.right }) c.in-Some.left c.in-Some-side_typ.right c.are_one.result c.in-Some.ensures c.in-Some-side_typ.ensures (λ t. typ_eq-same c.in-Some.left c.in-Some-side_typ.right (sym c.are_one.ensures ∙ t)))
