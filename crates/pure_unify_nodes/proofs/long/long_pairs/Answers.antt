use Rattle.pure_unify_nodes.proofs.LongLemmas.{drop_here, drop_all, brought_fault, brought_more, brought_all}
use Rattle.pure_unify_nodes.proofs.long.long_pairs.Goals as goal

pub returns-in-Err-clause-fault : goal.returns-in-Err-clause-fault
returns-in-Err-clause-fault c =
    brought_fault c.args.pairs.now c.loop-pair.pair-index c.loop-pair.long.items c.pair-item.result c.in-Err.fault c.loop-pair.invariant
    (drop_here c.args.pairs.now c.loop-pair.pair-index c.pair-item.result c.loop-pair-test.true c.pair-item.is) c.in-Err.ensures

pub loop-pair-preserved : goal.loop-pair-preserved
loop-pair-preserved c =
    rw c.in_ok-put-in-Ok.ensures
    (brought_more c.args.pairs.now c.loop-pair.pair-index c.loop-pair.long.items c.pair-item.result c.in-Ok.made c.loop-pair.invariant
    (drop_here c.args.pairs.now c.loop-pair.pair-index c.pair-item.result c.loop-pair-test.true c.pair-item.is) c.in-Ok.ensures)

pub returns-clause-ok : goal.returns-clause-ok
returns-clause-ok c =
    brought_all c.args.pairs.now c.loop-pair.pair-index c.loop-pair.long.items c.loop-pair.invariant (drop_all c.args.pairs.now c.loop-pair.pair-index c.loop-pair-test.false)
