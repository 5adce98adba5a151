use Rattle.std.proofs.Common.{take, [], ◌∷◌}
use Rattle.pure_text.proofs.ListLaws.{two-append}
use Rattle.pure_text.proofs.LoopLaws.{longer_by}
use Rattle.pure_citations.specs.Index.{IsCode}
use Rattle.pure_citations.proofs.index.codes.Goals as goal

pub loop-node-preserved : goal.loop-node-preserved
loop-node-preserved c =
    rw (longer_by c.args.nodes.now c.loop-node.node-index c.node-item.result c.loop-node-test.true c.node-item.is, c.in_ok-push.ensures.items)
    (two-append (IsCode c.args.names.now) (take c.loop-node.node-index c.args.nodes.now) (c.node-item.result ∷ []) c.loop-node.codes.items (c.code_of.result ∷ []) c.loop-node.invariant (c.code_of.ensures, tt))
