use Rattle.std.proofs.Common.{ℕ}
use Rattle.pure_definitions.specs.Types.Typ.{Typ}
use Rattle.pure_definitions.specs.Types.Order.{Algebra, IsOfSort}
use Rattle.pure_tunify.specs.GraphCode.{AreDemanded}
use Rattle.pure_tunify.proofs.demands.demand_sort.Given as goal

abbrev pub invariant-loop-class : goal.invariant-loop-class
invariant-loop-class l = (A : Algebra) (v : ℕ → Typ) → AreDemanded A v l.initial.work.items → IsOfSort A (v l.node) l.class-items → AreDemanded A v l.work.items
