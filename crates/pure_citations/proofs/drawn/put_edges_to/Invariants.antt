use Rattle.std.proofs.Common.{take, length, ◌-◌}
use Rattle.pure_citations.specs.Drawn.{edge_line, HasName}
use Rattle.pure_citations.specs.Heads.{IsPutOf}
use Rattle.pure_citations.proofs.drawn.put_edges_to.Given as goal

abbrev pub invariant-loop-place : goal.invariant-loop-place
invariant-loop-place l = IsPutOf (edge_line l.from) (HasName l.names l.named) (take l.place l.nodes) l.fn.text.items l.text.items

abbrev pub decreases-loop-place : goal.decreases-loop-place
decreases-loop-place l = length l.nodes - l.place
