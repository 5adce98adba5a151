use Rattle.std.proofs.Common.{sym, ◌∙◌}
use Rattle.std.proofs.lemmas.List.{take_all}
use Rattle.pure_text.proofs.AnswerLaws.{yes_as, no_as, test_fails}
use Rattle.pure_certify.proofs.BodyLaws.{extra-item, extra-next, ground-lacks, denied}
use Rattle.pure_certify.proofs.body.+has_extra.Goals as goal

pub returns-in-TFree : goal.returns-in-TFree
returns-in-TFree t c = rw (← c.t.view_is, c.in-TFree.is) (denied _ c.occurs_in_typ.result (rw (← c.t.view_is, c.in-TFree.is) at c.occurs_in_typ.ensures))

pub returns-in-TVar : goal.returns-in-TVar
returns-in-TVar t c = rw (← c.t.view_is, c.in-TVar.is) (denied _ c.occurs_in_typ-in-TVar.result (rw (← c.t.view_is, c.in-TVar.is) at c.occurs_in_typ-in-TVar.ensures))

pub returns-then-has_extra : goal.returns-then-has_extra
returns-then-has_extra t c =
    rw (← c.t.view_is, c.in-Con.is, ← c.as_slice-args.ensures)
    (yes_as _ (extra-item c.args.typ.now c.as_slice-args.result.now c.loop-arg.arg-index c.arg-item.result c.loop-arg-test.true c.arg-item.is (c.has_extra.ensures.0 c.if-has_extra.true)))

pub loop-arg-preserved : goal.loop-arg-preserved
loop-arg-preserved t c =
    extra-next c.args.typ.now c.as_slice-args.result.now c.loop-arg.arg-index c.arg-item.result c.loop-arg-test.true c.arg-item.is c.loop-arg.invariant (test_fails _ c.has_extra.result c.has_extra.ensures c.if-has_extra.false)

pub returns-after-loop-arg : goal.returns-after-loop-arg
returns-after-loop-arg t c =
    let all = take_all c.loop-arg.arg-index c.as_slice-args.result.now c.loop-arg-test.false in
    let none = rw all at c.loop-arg.invariant in
    rw (← c.t.view_is, c.in-Con.is, ← c.as_slice-args.ensures) (no_as _ none)

pub returns-then-is_ground_typ : goal.returns-then-is_ground_typ
returns-then-is_ground_typ t c = no_as _ (ground-lacks c.args.typ.now c.args.t.now (sym c.is_ground_typ.ensures ∙ c.if-is_ground_typ.true))
