use Rattle.pure_tunify.specs.GraphCode.{part_of}
use Rattle.pure_tunify.proofs.GraphClassLaws.{node_at}
use Rattle.pure_tunify.proofs.demands.first_demands.Goals as goal

pub loop-at-preserved : goal.loop-at-preserved
loop-at-preserved c = λ A v fits.
    c.in_ok-first_demand.ensures A v (c.loop-at.invariant A v fits)
    (fits c.loop-at.at (part_of c.index-nodes-at.result) (node_at c.args.nodes.now c.loop-at.at c.index-nodes-at.result c.loop-at-test.true c.index-nodes-at.is))
