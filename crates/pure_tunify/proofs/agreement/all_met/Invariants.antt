use Rattle.std.proofs.Common.{ℕ, map, ◌<◌}
use Rattle.pure_text.specs.Lists.{IsIn}
use Rattle.pure_tunify.specs.Graphs.{IsMet}
use Rattle.pure_tunify.specs.GraphCode.{part_of, asked_at, root_at, shape_at}
use Rattle.pure_tunify.proofs.agreement.all_met.Given as goal

abbrev pub invariant-loop-root : goal.invariant-loop-root
invariant-loop-root l = (r c : ℕ) → r < l.root → IsIn c (asked_at l.asked r) → IsMet l.order (root_at l.roots) (asked_at l.asked) c (shape_at (map part_of l.nodes) l.shapes r)
