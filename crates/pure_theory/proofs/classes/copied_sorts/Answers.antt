use Rattle.std.proofs.Common.{sym, take_all}
use Rattle.std.specs.List.Sorted.{IsStrictlyIncreasing}
use Rattle.pure_text.proofs.LoopLaws.{longer_by, each_turn}
use Rattle.pure_theory.proofs.classes.copied_sorts.Goals as goal

pub loop-sort-preserved : goal.loop-sort-preserved
loop-sort-preserved c = (
  rw (c.in_ok-push.ensures.items, c.loop-sort.invariant.0, c.in_ok-copy.ensures.equal) (sym (longer_by c.args.sorts.now c.loop-sort.sort-index c.sort-item.result c.loop-sort-test.true c.sort-item.is)),
  each_turn IsStrictlyIncreasing c.args.sorts.now c.loop-sort.sort-index c.sort-item.result c.loop-sort-test.true c.sort-item.is c.loop-sort.invariant.1 c.in_ok-copy.ensures.ascends,
)

pub returns-clause-equal : goal.returns-clause-equal
returns-clause-equal c = (rw (take_all c.loop-sort.sort-index c.args.sorts.now c.loop-sort-test.false) at c.loop-sort.invariant).0

pub returns-clause-ascend : goal.returns-clause-ascend
returns-clause-ascend c = (rw (take_all c.loop-sort.sort-index c.args.sorts.now c.loop-sort-test.false) at c.loop-sort.invariant).1
