use Rattle.std.proofs.Common.{[], take_all}
use Rattle.pure_text.proofs.AnswerLaws.{test_fails}
use Rattle.pure_text.proofs.LoopLaws.{each_turn}
use Rattle.pure_definitions.specs.Terms.Typing.{HasType}
use Rattle.pure_definitions.specs.Terms.Subst.{TermBind}
use Rattle.pure_inst.proofs.FailingLaws.{first-failing}
use Rattle.pure_inst.proofs.instance.first_mistyped.Goals as goal

pub returns-then-not-branch : goal.returns-then-not-branch
returns-then-not-branch c =
    first-failing (λ (b : TermBind). HasType [] b.image b.typ) c.args.binds.now c.loop-place.place c.index-binds-place.result c.cut_place.result c.loop-place-test.true c.index-binds-place.is c.loop-place.invariant
    (test_fails _ c.in_ok-is_typed.field-0 c.in_ok-is_typed.ensures c.if-not-branch.true) c.cut_place.ensures

pub loop-place-preserved : goal.loop-place-preserved
loop-place-preserved c =
    each_turn (λ (b : TermBind). HasType [] b.image b.typ) c.args.binds.now c.loop-place.place c.index-binds-place.result c.loop-place-test.true c.index-binds-place.is c.loop-place.invariant (c.in_ok-is_typed.ensures.0 c.if-not-branch.false)

pub returns : goal.returns
returns c = rw (take_all c.loop-place.place c.args.binds.now c.loop-place-test.false) at c.loop-place.invariant
