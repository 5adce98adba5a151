use Rattle.std.proofs.Common.{take_all}
use Rattle.pure_text.proofs.AnswerLaws.{test_fails, yes_as, no_as}
use Rattle.pure_text.proofs.ListLaws.{each_read}
use Rattle.pure_text.proofs.LoopLaws.{each_turn}
use Rattle.pure_theory.specs.Begin.{IsNewBeside}
use Rattle.pure_theory.proofs.agreed.is_new_over.Goals as goal

pub returns-then-not-is_new_beside : goal.returns-then-not-is_new_beside
returns-then-not-is_new_beside c =
    let fails = test_fails _ c.is_new_beside.result c.is_new_beside.ensures c.if-not-is_new_beside.true in
    no_as _ (λ each. fails (each_read (IsNewBeside c.args.theory) c.args.theories.now c.loop-other.other-index c.other-item.result c.loop-other-test.true c.other-item.is each))

pub loop-other-preserved : goal.loop-other-preserved
loop-other-preserved c =
    each_turn (IsNewBeside c.args.theory) c.args.theories.now c.loop-other.other-index c.other-item.result c.loop-other-test.true c.other-item.is c.loop-other.invariant (c.is_new_beside.ensures.0 c.if-not-is_new_beside.false)

pub returns : goal.returns
returns c = yes_as _ (rw (take_all c.loop-other.other-index c.args.theories.now c.loop-other-test.false) at c.loop-other.invariant)
