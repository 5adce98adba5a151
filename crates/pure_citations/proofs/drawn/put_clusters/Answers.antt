use Rattle.std.proofs.Common.{take}
use Rattle.pure_text.proofs.LoopLaws.{longer_by}
use Rattle.pure_citations.specs.Drawn.{cluster}
use Rattle.pure_citations.proofs.DrawnLaws.{all-more_text}
use Rattle.pure_citations.proofs.drawn.put_clusters.Goals as goal

pub loop-theory-preserved : goal.loop-theory-preserved
loop-theory-preserved c =
    rw (longer_by c.args.theories.now c.loop-theory.theory-index c.theory-item.result c.loop-theory-test.true c.theory-item.is)
    (all-more_text (cluster c.args.nodes.now) (take c.loop-theory.theory-index c.args.theories.now) c.theory-item.result c.args.text.now.items c.loop-theory.text.items _ c.loop-theory.invariant (rw c.bytes.ensures at c.in_ok-put_cluster.ensures))
