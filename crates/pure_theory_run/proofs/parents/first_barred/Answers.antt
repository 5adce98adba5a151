use Rattle.std.proofs.Common.{◌≡◌, ◌∙◌, false, ap, sym}
use Rattle.pure_theory_tables.proofs.GetLaws.{each_turn_at}
use Rattle.pure_theory_run.specs.Outline.{outlines, is_barred}
use Rattle.pure_theory_run.proofs.ItemLaws.{outline-at}
use Rattle.pure_theory_run.proofs.parents.first_barred.Goals as goal

pub loop-place-preserved : goal.loop-place-preserved
loop-place-preserved c =
    each_turn_at (λ o. is_barred o ≡ false) (outlines c.args.parents.now) c.loop-place.place c.index-parents-place.result.value (outline-at c.args.parents.now c.loop-place.place c.index-parents-place.result c.loop-place-test.true c.index-parents-place.is)
    c.loop-place.invariant (ap is_barred (sym c.deref.ensures) ∙ sym c.is_barred.ensures ∙ c.if-is_barred.false)
