use Rattle.pure_unify_steps.proofs.GatherLaws.{drop_here, drop_all}
use Rattle.pure_unify_steps.proofs.LoopLaws.{put_fault, put_more, put_all}
use Rattle.pure_unify_steps.proofs.put.put_pairs.Goals as goal

pub returns-in-Err-clause-fault : goal.returns-in-Err-clause-fault
returns-in-Err-clause-fault c =
    put_fault c.args.setting.now c.args.pairs.now c.loop-pair.pair-index c.loop-pair.made.items c.pair-item.result c.in-Err.fault c.loop-pair.invariant
    (drop_here c.args.pairs.now c.loop-pair.pair-index c.pair-item.result c.loop-pair-test.true c.pair-item.is) c.in-Err.ensures.answer

pub loop-pair-preserved : goal.loop-pair-preserved
loop-pair-preserved c =
    rw c.in_ok-add_pair-in-Ok.ensures
    (put_more c.args.setting.now c.args.pairs.now c.loop-pair.pair-index c.loop-pair.made.items c.pair-item.result c.in-Ok.one c.loop-pair.invariant
    (drop_here c.args.pairs.now c.loop-pair.pair-index c.pair-item.result c.loop-pair-test.true c.pair-item.is) c.in-Ok.ensures.answer c.in-Ok.ensures.long)

pub returns-clause-ok : goal.returns-clause-ok
returns-clause-ok c = put_all c.args.setting.now c.args.pairs.now c.loop-pair.pair-index c.loop-pair.made.items c.loop-pair.invariant (drop_all c.args.pairs.now c.loop-pair.pair-index c.loop-pair-test.false)
