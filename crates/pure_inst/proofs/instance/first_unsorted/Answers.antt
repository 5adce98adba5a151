use Rattle.std.proofs.Common.{take_all}
use Rattle.pure_text.proofs.AnswerLaws.{test_fails}
use Rattle.pure_text.proofs.LoopLaws.{each_turn}
use Rattle.pure_definitions.specs.Types.Order.{IsOfSort}
use Rattle.pure_definitions.specs.Terms.Subst.{TypBind}
use Rattle.pure_inst.proofs.FailingLaws.{first-failing}
use Rattle.pure_inst.proofs.instance.first_unsorted.Goals as goal

pub returns-then-not-is_sorted : goal.returns-then-not-is_sorted
returns-then-not-is_sorted c =
    first-failing (λ (b : TypBind). IsOfSort c.args.order.now b.image b.sort) c.args.binds.now c.loop-place.place c.index-binds-place.result c.cut_place.result c.loop-place-test.true c.index-binds-place.is c.loop-place.invariant
    (test_fails _ c.is_sorted.result c.is_sorted.ensures c.if-not-is_sorted.true) c.cut_place.ensures

pub loop-place-preserved : goal.loop-place-preserved
loop-place-preserved c =
    each_turn (λ (b : TypBind). IsOfSort c.args.order.now b.image b.sort) c.args.binds.now c.loop-place.place c.index-binds-place.result c.loop-place-test.true c.index-binds-place.is c.loop-place.invariant (c.is_sorted.ensures.0 c.if-not-is_sorted.false)

pub returns : goal.returns
returns c = rw (take_all c.loop-place.place c.args.binds.now c.loop-place-test.false) at c.loop-place.invariant
