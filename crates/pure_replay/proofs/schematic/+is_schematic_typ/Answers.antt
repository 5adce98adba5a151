use Rattle.std.proofs.lemmas.List.{take_all}
use Rattle.pure_text.proofs.AnswerLaws.{yes_as, no_as, test_fails}
use Rattle.pure_logic.specs.Content.{IsSchematicTyp}
use Rattle.pure_replay.proofs.SchematicLaws.{schematic-item, schematic-next}
use Rattle.pure_replay.proofs.schematic.+is_schematic_typ.Goals as goal

pub returns-then-not-is_schematic_typ : goal.returns-then-not-is_schematic_typ
returns-then-not-is_schematic_typ t c =
    rw (← c.t.view_is, c.in-Con.is, ← c.as_slice-args.ensures)
    (no_as _ (λ all. test_fails (IsSchematicTyp c.arg-item.result) c.is_schematic_typ.result c.is_schematic_typ.ensures c.if-not-is_schematic_typ.true
    (schematic-item c.as_slice-args.result.now c.loop-arg.arg-index c.arg-item.result c.loop-arg-test.true c.arg-item.is all)))

pub loop-arg-preserved : goal.loop-arg-preserved
loop-arg-preserved t c =
    schematic-next c.as_slice-args.result.now c.loop-arg.arg-index c.arg-item.result c.loop-arg-test.true c.arg-item.is c.loop-arg.invariant (c.is_schematic_typ.ensures.0 c.if-not-is_schematic_typ.false)

pub returns-after-loop-arg : goal.returns-after-loop-arg
returns-after-loop-arg t c =
    let all = take_all c.loop-arg.arg-index c.as_slice-args.result.now c.loop-arg-test.false in
    rw (← c.t.view_is, c.in-Con.is, ← c.as_slice-args.ensures) (yes_as _ (rw all at c.loop-arg.invariant))
