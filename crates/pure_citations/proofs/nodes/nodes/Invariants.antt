use Rattle.std.proofs.Common.{◌≡◌, take}
use Rattle.pure_citations.specs.Nodes.{nodes_of}
use Rattle.pure_citations.proofs.nodes.nodes.Given as goal

abbrev pub invariant-loop-row : goal.invariant-loop-row
invariant-loop-row l = l.nodes.items ≡ nodes_of (take l.row-index l.rows)
