use Rattle.std.proofs.Common.{ℕ, map}
use Rattle.pure_definitions.specs.Types.Typ.{Typ}
use Rattle.pure_definitions.specs.Types.Order.{Algebra}
use Rattle.pure_tunify.specs.Graphs.{FitsAll}
use Rattle.pure_tunify.specs.GraphCode.{part_of, IsKept}
use Rattle.pure_tunify.proofs.classes.close.Given as goal

abbrev pub invariant-loop : goal.invariant-loop
invariant-loop l = (A : Algebra) (v : ℕ → Typ) → FitsAll A (map part_of l.nodes) v → IsKept v l.initial.classes → IsKept v l.classes
