use Rattle.std.proofs.Common.{take_all}
use Rattle.pure_text.proofs.AnswerLaws.{test_fails, yes_as, no_as}
use Rattle.pure_text.proofs.ListLaws.{each_read}
use Rattle.pure_text.proofs.LoopLaws.{each_turn}
use Rattle.pure_text.specs.Lists.{Each}
use Rattle.pure_definitions.specs.Terms.Term.{IsWithin}
use Rattle.pure_theorem.proofs.limits.are_within.Goals as goal

pub returns-then-not-is_within : goal.returns-then-not-is_within
returns-then-not-is_within c =
    let fails = test_fails (IsWithin c.term-item.result) c.is_within.result c.is_within.ensures c.if-not-is_within.true in
    no_as (Each IsWithin c.args.terms.now) (λ each. fails (each_read IsWithin c.args.terms.now c.loop-term.term-index c.term-item.result c.loop-term-test.true c.term-item.is each))

pub loop-term-preserved : goal.loop-term-preserved
loop-term-preserved c =
    each_turn IsWithin c.args.terms.now c.loop-term.term-index c.term-item.result c.loop-term-test.true c.term-item.is c.loop-term.invariant (c.is_within.ensures.0 c.if-not-is_within.false)

pub returns : goal.returns
returns c = yes_as (Each IsWithin c.args.terms.now) (rw (take_all c.loop-term.term-index c.args.terms.now c.loop-term-test.false) at c.loop-term.invariant)
