use Rattle.pure_citations.specs.Cited.{forks}
use Rattle.pure_citations.proofs.EdgeCode.{shown-put}
use Rattle.pure_citations.proofs.edges.put_shown.Goals as goal

pub returns : goal.returns
returns c =
    shown-put c.args.names.now (forks c.args.duties.now) c.args.entries.now c.requires.entries c.requires.beside c.requires.rests c.args.place c.index-entries-place.result c.requires.entry c.index-entries-place.is c.args.graph.now.nodes.items c.in_ok-named.named.items _ _
    c.in_ok-named.ensures (rw c.as_slice.ensures.value at c.in_ok-put_named_edges.ensures)
