use Rattle.std.proofs.Common.{◌≡◌, ℕ, map}
use Rattle.pure_definitions.specs.Types.Typ.{Typ}
use Rattle.pure_tunify.specs.GraphCode.{AreCoupled}
use Rattle.pure_tunify.proofs.classes.couple_each.Given as goal

abbrev pub invariant-loop-i : goal.invariant-loop-i
invariant-loop-i l = (v : ℕ → Typ) → AreCoupled v l.initial.work.items → map v l.lefts ≡ map v l.rights → AreCoupled v l.work.items
