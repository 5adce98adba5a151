use Rattle.std.proofs.Common.{◌≡◌, ◌++◌, take}
use Rattle.std.specs.List.{flat_map}
use Rattle.pure_citations.specs.Drawn.{line_behind}
use Rattle.pure_citations.proofs.drawn.put_all_in.Given as goal

abbrev pub invariant-loop-node : goal.invariant-loop-node
invariant-loop-node l = l.text.items ≡ l.fn.text.items ++ flat_map (line_behind l.beginning) (take l.node-index l.nodes)
