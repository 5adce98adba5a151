use Rattle.std.proofs.Common.{◌≡◌, ◌++◌, take}
use Rattle.std.specs.List.{flat_map}
use Rattle.pure_citations.specs.Drawn.{cluster}
use Rattle.pure_citations.proofs.drawn.put_clusters.Given as goal

abbrev pub invariant-loop-theory : goal.invariant-loop-theory
invariant-loop-theory l = l.text.items ≡ l.fn.text.items ++ flat_map (cluster l.nodes) (take l.theory-index l.theories)
