use Rattle.std.proofs.Common.{take_all}
use Rattle.pure_text.specs.Lists.{Each}
use Rattle.pure_text.proofs.AnswerLaws.{test_fails, yes_as, no_as}
use Rattle.pure_text.proofs.ListLaws.{each_read}
use Rattle.pure_text.proofs.LoopLaws.{each_turn}
use Rattle.pure_theory.specs.Begin.{AreTold}
use Rattle.pure_theory.proofs.agreed.are_told_apart.Goals as goal

pub returns-then-not-is_told : goal.returns-then-not-is_told
returns-then-not-is_told c =
    let fails = test_fails _ c.is_told.result c.is_told.ensures c.if-not-is_told.true in
    no_as _ (λ each. fails (each_read (λ t. Each (AreTold t) c.args.theories.now) c.args.theories.now c.loop-theory.theory-index c.theory-item.result c.loop-theory-test.true c.theory-item.is each))

pub loop-theory-preserved : goal.loop-theory-preserved
loop-theory-preserved c =
    each_turn (λ t. Each (AreTold t) c.args.theories.now) c.args.theories.now c.loop-theory.theory-index c.theory-item.result c.loop-theory-test.true c.theory-item.is c.loop-theory.invariant (c.is_told.ensures.0 c.if-not-is_told.false)

pub returns : goal.returns
returns c = yes_as _ (rw (take_all c.loop-theory.theory-index c.args.theories.now c.loop-theory-test.false) at c.loop-theory.invariant)
