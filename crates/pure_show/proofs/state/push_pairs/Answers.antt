use Rattle.pure_show.proofs.LineLaws.{pair-more}
use Rattle.pure_show.proofs.state.push_pairs.Goals as goal

pub loop-pair-preserved : goal.loop-pair-preserved
loop-pair-preserved c = pair-more c.args.names.now c.args.pairs.now c.loop-pair.pair-index c.pair-item.result c.loop-pair-test.true c.pair-item.is _ _ _ c.in_ok-push_pair.ensures c.loop-pair.invariant
