use Rattle.std.proofs.Common.{take}
use Rattle.pure_text.proofs.LoopLaws.{longer_by}
use Rattle.pure_citations.specs.Drawn.{line_behind}
use Rattle.pure_citations.proofs.DrawnLaws.{all-more_text}
use Rattle.pure_citations.proofs.drawn.put_all_in.Goals as goal

pub loop-node-preserved : goal.loop-node-preserved
loop-node-preserved c =
    rw (longer_by c.args.nodes.now c.loop-node.node-index c.node-item.result c.loop-node-test.true c.node-item.is)
    (all-more_text (line_behind c.args.beginning.now) (take c.loop-node.node-index c.args.nodes.now) c.node-item.result c.args.text.now.items c.loop-node.text.items _ c.loop-node.invariant c.in_ok-put_if_in.ensures)
