use Rattle.std.proofs.Common.{◌≡◌, ℕ}
use Rattle.pure_definitions.specs.Types.Typ.{Typ}
use Rattle.pure_tunify.specs.GraphCode.{KeepsValues}
use Rattle.pure_tunify.proofs.classes.root.Given as goal

abbrev pub invariant-loop-at : goal.invariant-loop-at
invariant-loop-at l = (v : ℕ → Typ) → KeepsValues v l.initial.parent.items → KeepsValues v l.parent.items × (v l.start ≡ v l.at)

abbrev pub decreases-loop-at : goal.decreases-loop-at
decreases-loop-at l = l.at
