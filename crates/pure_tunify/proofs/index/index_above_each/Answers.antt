use Rattle.std.proofs.Common.{arith}
use Rattle.pure_tunify.proofs.IndexLaws.{index_above_pairs-take}
use Rattle.pure_tunify.proofs.index.index_above_each.Goals as goal

pub loop-pair-preserved : goal.loop-pair-preserved
loop-pair-preserved c =
    let more = index_above_pairs-take c.args.pairs.now c.loop-pair.pair-index c.pair-item.result c.loop-pair-test.true c.pair-item.is in
    omega arith
