use Rattle.std.proofs.Common.{ℕ, map}
use Rattle.pure_definitions.specs.Types.Typ.{Typ}
use Rattle.pure_tunify.specs.Graphs.{FitsAll}
use Rattle.pure_tunify.specs.GraphCode.{part_of, KeepsValues, AreDemanded}
use Rattle.pure_tunify.proofs.demands.asked_classes.Given as goal

abbrev pub invariant-loop : goal.invariant-loop
invariant-loop l = (v : ℕ → Typ) → FitsAll l.order (map part_of l.nodes) v → KeepsValues v l.roots → KeepsValues v l.shapes → AreDemanded l.order v l.work.items
