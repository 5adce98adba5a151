use Rattle.std.proofs.Common.{◌≡◌, ap, sym, ◌∙◌}
use Rattle.pure_definitions.specs.Terms.Term.{Const}
use Rattle.pure_definitions.proofs.MeasureLemmas.{ground_stays}
use Rattle.pure_logic.specs.Content.{schematic_typ_variable}
use Rattle.pure_statements.specs.Schematic.{generalised}
use Rattle.pure_statements.proofs.schematic.+generalised_part.Goals as goal

pub returns-then-is_ground_typ : goal.returns-then-is_ground_typ
returns-then-is_ground_typ t c =
    let same : generalised c.args.t.now.value ≡ c.args.t.now.value = rw (← c.deref-whole.ensures, ← c.whole.view_is, c.in-Const.is) (ap (Const c.in-Const.name) (ground_stays schematic_typ_variable c.in-Const.typ (sym c.is_ground_typ.ensures ∙ c.if-is_ground_typ.true))) in
    rw same c.try_clone.ensures
