use Rattle.std.proofs.Common.{◌+◌, take, drop, subst, take_all}
use Rattle.pure_text.specs.Lists.{Each}
use Rattle.pure_text.proofs.AnswerLaws.{test_fails}
use Rattle.pure_text.proofs.ListLaws.{split_at}
use Rattle.pure_text.proofs.LoopLaws.{each_turn}
use Rattle.pure_promise.specs.Accepting.{IsForkedBefore}
use Rattle.pure_promise.proofs.promise.first_unforked.Goals as goal

pub loop-label-preserved : goal.loop-label-preserved
loop-label-preserved c = each_turn (IsForkedBefore c.args.forked.now c.args.number) c.args.labels.now c.loop-label.label-index c.label-item.result c.loop-label-test.true c.label-item.is c.loop-label.invariant
    (rw c.first_forked-earlier.ensures at (c.stands_in.ensures.0 c.if-not-stands_in.false))

pub returns-then-not-stands_in : goal.returns-then-not-stands_in
returns-then-not-stands_in c = record {
  front = take c.loop-label.label-index c.args.labels.now;
  rest = drop (c.loop-label.label-index + 1) c.args.labels.now;
  is = split_at c.args.labels.now c.loop-label.label-index c.label-item.result c.loop-label-test.true c.label-item.is;
  forked_before = c.loop-label.invariant;
  unforked = rw c.first_forked-earlier.ensures at (test_fails _ c.stands_in.result c.stands_in.ensures c.if-not-stands_in.true);
}

pub returns : goal.returns
returns c = subst (Each (IsForkedBefore c.args.forked.now c.args.number)) (take_all c.loop-label.label-index c.args.labels.now c.loop-label-test.false) c.loop-label.invariant
