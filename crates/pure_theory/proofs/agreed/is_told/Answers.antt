use Rattle.std.proofs.Common.{take_all}
use Rattle.pure_text.proofs.AnswerLaws.{test_fails, yes_as, no_as}
use Rattle.pure_text.proofs.ListLaws.{each_read}
use Rattle.pure_text.proofs.LoopLaws.{each_turn}
use Rattle.pure_theory.specs.Begin.{AreTold}
use Rattle.pure_theory.proofs.agreed.is_told.Goals as goal

pub returns-then-not-are_told : goal.returns-then-not-are_told
returns-then-not-are_told c =
    let fails = test_fails _ c.are_told.result c.are_told.ensures c.if-not-are_told.true in
    no_as _ (λ each. fails (each_read (AreTold c.args.theory) c.args.theories.now c.loop-other.other-index c.other-item.result c.loop-other-test.true c.other-item.is each))

pub loop-other-preserved : goal.loop-other-preserved
loop-other-preserved c =
    each_turn (AreTold c.args.theory) c.args.theories.now c.loop-other.other-index c.other-item.result c.loop-other-test.true c.other-item.is c.loop-other.invariant (c.are_told.ensures.0 c.if-not-are_told.false)

pub returns : goal.returns
returns c = yes_as _ (rw (take_all c.loop-other.other-index c.args.theories.now c.loop-other-test.false) at c.loop-other.invariant)
