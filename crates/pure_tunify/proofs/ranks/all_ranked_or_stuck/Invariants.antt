use Rattle.std.proofs.Common.{◌≡◌, ℕ, map, ◌<◌, Some}
use Rattle.std.specs.Prelude.{slice_get}
use Rattle.pure_tunify.specs.GraphCode.{part_of, HasStuckKid}
use Rattle.pure_tunify.proofs.ranks.all_ranked_or_stuck.Given as goal

abbrev pub invariant-loop-class : goal.invariant-loop-class
invariant-loop-class l = (r : ℕ) → r < l.class → slice_get l.ranks r ≡ Some 0 → HasStuckKid (map part_of l.nodes) l.roots l.shapes l.ranks r
