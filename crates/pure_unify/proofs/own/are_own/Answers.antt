use Rattle.pure_unify_nodes.specs.Long.{IsLongPair}
use Rattle.pure_unify.proofs.OwnLaws.{each_more, each_all}
use Rattle.pure_unify.proofs.own.are_own.Goals as goal

pub loop-pair-preserved : goal.loop-pair-preserved
loop-pair-preserved c =
    each_more IsLongPair c.args.pairs.now c.loop-pair.pair-index c.pair-item.result c.loop-pair-test.true c.pair-item.is c.loop-pair.invariant (rw c.if-not-is_own_pair.false at c.is_own_pair.ensures)

pub returns : goal.returns
returns c = each_all IsLongPair c.args.pairs.now c.loop-pair.pair-index c.loop-pair-test.false c.loop-pair.invariant
