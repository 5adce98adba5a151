use Rattle.std.proofs.Common.{◌∙◌, take, ap, sym, [], ◌∷◌}
use Rattle.std.proofs.lemmas.List.Elements.{filter_map-append}
use Rattle.pure_text.proofs.LoopLaws.{longer_by}
use Rattle.pure_citations.specs.Nodes.{node_of, nodes_of}
use Rattle.pure_citations.proofs.nodes.nodes.Goals as goal

pub loop-row-preserved : goal.loop-row-preserved
loop-row-preserved c =
    rw (longer_by c.args.rows.now c.loop-row.row-index c.row-item.result c.loop-row-test.true c.row-item.is)
    (rw c.loop-row.invariant at c.in_ok-put_node.ensures ∙ sym (filter_map-append node_of (take c.loop-row.row-index c.args.rows.now) (c.row-item.result ∷ [])))
