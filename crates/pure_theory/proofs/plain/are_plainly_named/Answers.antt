use Rattle.std.proofs.Common.{take_all}
use Rattle.pure_text.proofs.AnswerLaws.{test_fails, yes_as, no_as}
use Rattle.pure_text.proofs.ListLaws.{each_read}
use Rattle.pure_text.proofs.LoopLaws.{each_turn}
use Rattle.pure_theory.specs.Plain.{IsPlainlyNamed}
use Rattle.pure_theory.proofs.plain.are_plainly_named.Goals as goal

pub returns-then-not-is_plainly_named : goal.returns-then-not-is_plainly_named
returns-then-not-is_plainly_named c =
    let fails = test_fails _ c.is_plainly_named.result c.is_plainly_named.ensures c.if-not-is_plainly_named.true in
    no_as _ (λ each. fails (each_read (IsPlainlyNamed c.args.names.now) c.args.theories.now c.loop-theory.theory-index c.theory-item.result c.loop-theory-test.true c.theory-item.is each))

pub loop-theory-preserved : goal.loop-theory-preserved
loop-theory-preserved c =
    each_turn (IsPlainlyNamed c.args.names.now) c.args.theories.now c.loop-theory.theory-index c.theory-item.result c.loop-theory-test.true c.theory-item.is c.loop-theory.invariant (c.is_plainly_named.ensures.0 c.if-not-is_plainly_named.false)

pub returns : goal.returns
returns c = yes_as _ (rw (take_all c.loop-theory.theory-index c.args.theories.now c.loop-theory-test.false) at c.loop-theory.invariant)
