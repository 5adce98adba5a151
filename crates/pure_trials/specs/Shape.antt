-- Shapes of sessions, theory by theory.
use Rattle.std.specs.Prelude.{◌<◌, ℕ, ◌+◌, List, [], ◌∷◌}
use Rattle.pure_text.specs.Lists.{Each}

-- Of theories numbered from this one on, the parents of each have smaller numbers, from 1 on.
abbrev pub AreBelow : (number : ℕ) → List (List ℕ) → Type 0
AreBelow n [] = Unit {0}
AreBelow n (ps ∷ rest) = Each (λ p. (0 < p) × (p < n)) ps × AreBelow (n + 1) rest
