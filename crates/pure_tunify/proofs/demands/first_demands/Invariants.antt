use Rattle.std.proofs.Common.{ℕ, map}
use Rattle.pure_definitions.specs.Types.Typ.{Typ}
use Rattle.pure_definitions.specs.Types.Order.{Algebra}
use Rattle.pure_tunify.specs.Graphs.{FitsAll}
use Rattle.pure_tunify.specs.GraphCode.{part_of, AreDemanded}
use Rattle.pure_tunify.proofs.demands.first_demands.Given as goal

abbrev pub invariant-loop-at : goal.invariant-loop-at
invariant-loop-at l = (A : Algebra) (v : ℕ → Typ) → FitsAll A (map part_of l.nodes) v → AreDemanded A v l.work.items
