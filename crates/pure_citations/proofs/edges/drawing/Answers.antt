use Rattle.std.proofs.Common.{◌∙◌}
use Rattle.pure_table.specs.Promise.Seen.{seen}
use Rattle.pure_citations.specs.Cited.{forks}
use Rattle.pure_citations.proofs.EdgeCode.{drawn}
use Rattle.pure_citations.proofs.edges.drawing.Goals as goal

pub returns : goal.returns
returns c =
    rw c.from.ensures
    (drawn c.args.names.now c.args.theories.now (forks c.args.duties.now) (seen c.args.entries.now) c.args.rows.now c.in_ok-graph.graph.nodes.items c.in_ok-graph.ensures.nodes _ _ _ _ _ c.new-text.ensures.items c.in_ok-put_opening.ensures
    (rw c.as_slice.ensures.value at c.in_ok-put_clusters.ensures) c.in_ok-put_all_edges.ensures c.in_ok-put_closing.ensures)
