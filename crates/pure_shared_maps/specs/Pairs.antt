-- Lists of pairs of a key and a value.
use Rattle.std.specs.Prelude.{◌≡◌, ◌≤◌, ◌<◌, ℕ, List, [], ◌∷◌, ◌++◌, length, take, drop}
use Rattle.std.specs.Ordering.{nat_cmp}
use Rattle.std.specs.FinMap.{find}
use Rattle.pure_text.specs.Lists.{Each}

-- No key is greater than a later one.
abbrev pub Ascends : {V : Type 0} → List (ℕ × V) → Type 0
Ascends [] = Unit {0}
Ascends (p ∷ ps) = Each (λ q. p.0 ≤ q.0) ps × Ascends ps

-- The lists are as long, and the first pair with a key has the same value in both.
pub record HasSame {V : Type 0} (ps qs : List (ℕ × V)) : Type 0 where
  pub long : length ps ≡ length qs
  pub finds : (key : ℕ) → find nat_cmp key ps ≡ find nat_cmp key qs

-- The keys before the place are less than this key, and those from the place on aren't.
pub record IsPlaceOf {V : Type 0} (ps : List (ℕ × V)) (key place : ℕ) : Type 0 where
  pub less : Each (λ p. p.0 < key) (take place ps)
  pub rest : Each (λ p. key ≤ p.0) (drop place ps)

-- the pairs of all runs, one run after the other
abbrev pub joined : {A : Type 0} → List (List A) → List A
joined [] = []
joined (r ∷ rs) = r ++ joined rs
