-- Equations whose second type may be given by its parts.
use Rattle.std.specs.Prelude.{ℕ, [], Option, None, Some, refl}
use Rattle.std.specs.Coded.{Coded, code_by, coded×}
use Rattle.pure_definitions.specs.Types.Typ.{Typ, TVar, arrow}
use Rattle.pure_definitions.specs.Models.Codes.{coded_typ}
use Rattle.pure_tunify.specs.declared.pair.TypPair.{TypPair}
use Rattle.pure_tunify.specs.Steps.{pair}

-- the unknown of a number, to which a function goes
abbrev pub unknown_range : (number : ℕ) → Typ
unknown_range n = TVar n 0 []

-- the pair of an equation: its two types, or the first one and the type of functions from the second one to the unknown of a number
abbrev pub equated : (left right : Typ) → (range : Option ℕ) → TypPair
equated t u None = pair t u
equated t u (Some n) = pair t (arrow u (unknown_range n))

-- a code by which pairs are told apart
abbrev pub coded_pair : Coded TypPair
coded_pair = code_by (Typ × Typ) (coded× coded_typ coded_typ) (λ p. (p.left, p.right)) (λ q. record { left = q.0; right = q.1 }) (λ _. refl)
