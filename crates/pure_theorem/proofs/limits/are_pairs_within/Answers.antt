use Rattle.std.proofs.Common.{take_all}
use Rattle.pure_text.proofs.AnswerLaws.{test_fails, yes_as, no_as}
use Rattle.pure_text.proofs.ListLaws.{each_read}
use Rattle.pure_text.proofs.LoopLaws.{each_turn}
use Rattle.pure_text.specs.Lists.{Each}
use Rattle.pure_theorem.specs.Within.{IsPairWithin}
use Rattle.pure_theorem.proofs.limits.are_pairs_within.Goals as goal

pub returns-then-not-is_pair_within : goal.returns-then-not-is_pair_within
returns-then-not-is_pair_within c =
    let fails = test_fails (IsPairWithin c.pair-item.result) c.is_pair_within.result c.is_pair_within.ensures c.if-not-is_pair_within.true in
    no_as (Each IsPairWithin c.args.pairs.now) (λ each. fails (each_read IsPairWithin c.args.pairs.now c.loop-pair.pair-index c.pair-item.result c.loop-pair-test.true c.pair-item.is each))

pub loop-pair-preserved : goal.loop-pair-preserved
loop-pair-preserved c =
    each_turn IsPairWithin c.args.pairs.now c.loop-pair.pair-index c.pair-item.result c.loop-pair-test.true c.pair-item.is c.loop-pair.invariant (c.is_pair_within.ensures.0 c.if-not-is_pair_within.false)

pub returns : goal.returns
returns c = yes_as (Each IsPairWithin c.args.pairs.now) (rw (take_all c.loop-pair.pair-index c.args.pairs.now c.loop-pair-test.false) at c.loop-pair.invariant)
