-- Equality of terms modulo pairs, and the first place at which it fails.
use Rattle.std.specs.Prelude.{◌≡◌, ◌≢◌, ◌⊎◌, ℕ, ◌+◌, List, [], ◌∷◌}
use Rattle.pure_text.specs.Lists.{AnyOf}
use Rattle.pure_definitions.specs.Types.Typ.{Typ}
use Rattle.pure_definitions.specs.Terms.Term.{Term, Abs, App}
use Rattle.pure_definitions.specs.Terms.Typing.{node_count}
use Rattle.pure_logic.specs.Derivable.{Pair}

-- the term below abstractions over binders of these types, the innermost first
abbrev pub closed_over : List Typ → Term → Term
closed_over [] t = t
closed_over (T ∷ Ts) t = closed_over Ts (Abs T t)

-- The terms are the sides of the pair.
abbrev pub AreSides : Pair → (t u : Term) → Type 0
AreSides p t u = (p.left ≡ t) × (p.right ≡ u)

-- They are the sides of a listed pair, either way round.
abbrev pub AreListed : List Pair → (t u : Term) → Type 0
AreListed pairs t u = AnyOf (λ p. AreSides p t u ⊎ AreSides p u t) pairs

-- So are they below abstractions over the binders around them.
abbrev pub AreListedUnder : List Pair → List Typ → (t u : Term) → Type 0
AreListedUnder pairs bs t u = AreListed pairs (closed_over bs t) (closed_over bs u)

-- Under binders of these types, the innermost first, two terms are equal modulo the pairs: they are equal; or the sides of a listed pair, below abstractions over the binders; or built alike from parts that are equal modulo the pairs.
pub data AreEqualModulo (pairs : List Pair) : List Typ → Term → Term → Type 0 where
  equal : {bs : List Typ} {t : Term} → AreEqualModulo pairs bs t t
  listed : {bs : List Typ} {t u : Term} → AreListedUnder pairs bs t u → AreEqualModulo pairs bs t u
  bodies : {bs : List Typ} {T : Typ} {b c : Term} → AreEqualModulo pairs (T ∷ bs) b c → AreEqualModulo pairs bs (Abs T b) (Abs T c)
  applied : {bs : List Typ} {f g a b : Term} → AreEqualModulo pairs bs f g → AreEqualModulo pairs bs a b → AreEqualModulo pairs bs (App f a) (App g b)

-- The nodes of the terms are alike: both are abstractions over a variable of one type, or both are applications.
abbrev pub AreAlike : Term → Term → Type 0
AreAlike (Abs T b) (Abs U c) = T ≡ U
AreAlike (App f a) (App g b) = Unit {0}
AreAlike _ _ = ⊥

-- Equality modulo the pairs fails, and this is the number in preorder, from 0, of the first part of t that fails at its own node: its nodes of types aren't counted.
pub data DiffersAt (pairs : List Pair) : List Typ → (t u : Term) → (place : ℕ) → Type 0 where
  here : {bs : List Typ} {t u : Term} → t ≢ u → ¬ AreListedUnder pairs bs t u → ¬ AreAlike t u → DiffersAt pairs bs t u 0
  in_body : {bs : List Typ} {T : Typ} {b c : Term} {inside : ℕ} → ¬ AreListedUnder pairs bs (Abs T b) (Abs T c) → DiffersAt pairs (T ∷ bs) b c inside → DiffersAt pairs bs (Abs T b) (Abs T c) (inside + 1)
  in_function : {bs : List Typ} {f g a b : Term} {inside : ℕ} → ¬ AreListedUnder pairs bs (App f a) (App g b) → DiffersAt pairs bs f g inside → DiffersAt pairs bs (App f a) (App g b) (inside + 1)
  in_argument : {bs : List Typ} {f g a b : Term} {inside : ℕ} → ¬ AreListedUnder pairs bs (App f a) (App g b) → AreEqualModulo pairs bs f g → DiffersAt pairs bs a b inside
      → DiffersAt pairs bs (App f a) (App g b) (inside + (node_count f + 1))
