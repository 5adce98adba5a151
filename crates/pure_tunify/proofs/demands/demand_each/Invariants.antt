use Rattle.std.proofs.Common.{ℕ, map}
use Rattle.pure_definitions.specs.Types.Typ.{Typ, typs_of}
use Rattle.pure_definitions.specs.Types.Order.{Algebra, AreOfSorts}
use Rattle.pure_tunify.specs.GraphCode.{AreDemanded}
use Rattle.pure_tunify.proofs.demands.demand_each.Given as goal

abbrev pub invariant-loop-i : goal.invariant-loop-i
invariant-loop-i l = (A : Algebra) (v : ℕ → Typ) → AreDemanded A v l.initial.work.items → AreOfSorts A (typs_of (map v l.kids)) l.domains → AreDemanded A v l.work.items
