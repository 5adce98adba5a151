use Rattle.std.proofs.Common.{◌≡◌, ℕ, map, ◌<◌, Some}
use Rattle.std.specs.Prelude.{slice_get}
use Rattle.pure_tunify.specs.Graphs.{Part}
use Rattle.pure_tunify.specs.GraphCode.{part_of, IsKnownAt}
use Rattle.pure_tunify.proofs.unifiable.are_one.Given as goal

abbrev pub invariant-loop-at : goal.invariant-loop-at
invariant-loop-at l = (i : ℕ) (p : Part) → i < l.at → slice_get (map part_of l.graph.nodes.items) i ≡ Some p → IsKnownAt l.graph.leaves l.roots i p
