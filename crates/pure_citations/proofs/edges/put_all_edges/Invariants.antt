use Rattle.std.proofs.Common.{take, map}
use Rattle.pure_table.specs.Promise.Seen.{seen}
use Rattle.pure_citations.specs.Drawn.{AreAllPut}
use Rattle.pure_citations.proofs.edges.put_all_edges.Given as goal

abbrev pub invariant-loop-place : goal.invariant-loop-place
invariant-loop-place l = AreAllPut l.names (map (λ d. d.value) l.duties) (seen l.entries) l.graph.nodes.items (take l.place (seen l.entries)) l.fn.text.items l.text.items
