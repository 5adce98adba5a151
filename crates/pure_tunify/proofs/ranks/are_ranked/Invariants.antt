use Rattle.std.proofs.Common.{ℕ, map, ◌<◌}
use Rattle.pure_tunify.specs.GraphCode.{part_of, IsRankedAt}
use Rattle.pure_tunify.proofs.ranks.are_ranked.Given as goal

abbrev pub invariant-loop-class : goal.invariant-loop-class
invariant-loop-class l = (r : ℕ) → r < l.class → IsRankedAt (map part_of l.nodes) l.roots l.shapes l.ranks r
