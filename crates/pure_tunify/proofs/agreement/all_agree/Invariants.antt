use Rattle.std.proofs.Common.{◌≡◌, ℕ, map, ◌<◌, Some}
use Rattle.std.specs.Prelude.{slice_get}
use Rattle.pure_tunify.specs.Graphs.{Part, Agrees}
use Rattle.pure_tunify.specs.GraphCode.{part_of, root_at, shape_at, asked_at}
use Rattle.pure_tunify.proofs.agreement.all_agree.Given as goal

abbrev pub invariant-loop-at : goal.invariant-loop-at
invariant-loop-at l = (i : ℕ) (p : Part) → i < l.at → slice_get (map part_of l.nodes) i ≡ Some p → Agrees (root_at l.roots) (asked_at l.asked) (shape_at (map part_of l.nodes) l.shapes (root_at l.roots i)) (root_at l.roots i) p
