-- Terms with constants replaced.
use Rattle.std.specs.Prelude.{◌≡◌, ◌⊎◌, ℕ}
use Rattle.pure_definitions.specs.Types.Typ.{Typ}
use Rattle.pure_definitions.specs.Terms.Term.{Term, Const, Abs, App}

-- The second term is the first with constants replaced, all at once: each constant, with the type that is written with it, by the term that the rule puts for it, or not at all where it puts none. Terms that are put aren't looked at again.
-- They have no loose bound variables, so they stand under binders as they are.
abbrev pub IsReplaced : (Puts : ℕ → Typ → Term → Type 0) → Term → Term → Type 0
IsReplaced Puts (Const c T) u = Puts c T u ⊎ ((u ≡ Const c T) × ((v : Term) → ¬ Puts c T v))
IsReplaced Puts (Abs T b) u = (c : Term) × IsReplaced Puts b c × (u ≡ Abs T c)
IsReplaced Puts (App f a) u = (g : Term) × (b : Term) × IsReplaced Puts f g × IsReplaced Puts a b × (u ≡ App g b)
IsReplaced Puts t u = u ≡ t

-- The rule puts a term for some constant of the term.
abbrev pub HasReplaced : (Puts : ℕ → Typ → Term → Type 0) → Term → Type 0
HasReplaced Puts (Const c T) = (u : Term) × Puts c T u
HasReplaced Puts (Abs T b) = HasReplaced Puts b
HasReplaced Puts (App f a) = HasReplaced Puts f ⊎ HasReplaced Puts a
HasReplaced Puts t = ⊥
