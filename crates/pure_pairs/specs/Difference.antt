-- The first difference of two terms modulo pairs, as a function: places are cut off at the greatest number of a call.
use Rattle.std.specs.Prelude.{◌≢◌, ℕ, ◌+◌, List, [], ◌∷◌, Bool, false, ◌&&◌, ◌||◌, if◌then◌else◌, Option, Some, None}
use Rattle.pure_definitions.specs.Types.Typ.{Typ, typ_eq}
use Rattle.pure_definitions.specs.Terms.Term.{Term, Abs, App, term_eq}
use Rattle.pure_definitions.specs.Terms.Typing.{node_count}
use Rattle.pure_definitions.specs.Terms.Limits.{cut_off}
use Rattle.pure_logic.specs.Derivable.{Pair}
use Rattle.pure_pairs.specs.Modulo.{closed_over}

-- The term doesn't begin with abstractions over variables of these types.
abbrev pub IsNotOver : List Typ → Term → Type 0
IsNotOver bs t = (b : Term) → t ≢ closed_over bs b

-- whether the terms are the sides of the pair, or of a listed one, either way round
abbrev pub is_either_way : Pair → (t u : Term) → Bool
is_either_way p t u = (term_eq p.left t && term_eq p.right u) || (term_eq p.left u && term_eq p.right t)

abbrev pub is_listed : List Pair → (t u : Term) → Bool
is_listed [] t u = false
is_listed (p ∷ ps) t u = is_either_way p t u || is_listed ps t u

-- the place, unless the terms, under the binders, are the sides of a listed pair
abbrev pub unless_listed : List Pair → List Typ → (t u : Term) → (place : ℕ) → Option ℕ
unless_listed ps bs t u place = if is_listed ps (closed_over bs t) (closed_over bs u) then None else Some place

-- the difference of terms that aren't built alike
abbrev pub at_node : List Pair → List Typ → (t u : Term) → Option ℕ
at_node ps bs t u = if term_eq t u then None else unless_listed ps bs t u 0

-- the difference of terms whose parts, so much further on, have this one
abbrev pub further : List Pair → List Typ → (t u : Term) → (by : ℕ) → Option ℕ → Option ℕ
further ps bs t u by None = None
further ps bs t u by (Some place) = unless_listed ps bs t u (cut_off (place + by))

-- the difference of applications, from those of the functions and of the arguments
abbrev pub at_applications : List Pair → List Typ → (t u f : Term) → (first second : Option ℕ) → Option ℕ
at_applications ps bs t u f None second = further ps bs t u (cut_off (cut_off (node_count f) + 1)) second
at_applications ps bs t u f (Some place) second = unless_listed ps bs t u (cut_off (place + 1))

-- the place of the first difference, or none
abbrev pub difference : List Pair → List Typ → (t u : Term) → Option ℕ
difference ps bs (Abs T b) (Abs U c) = if typ_eq T U then further ps bs (Abs T b) (Abs U c) 1 (difference ps (T ∷ bs) b c) else at_node ps bs (Abs T b) (Abs U c)
difference ps bs (App f a) (App g b) = at_applications ps bs (App f a) (App g b) f (difference ps bs f g) (difference ps bs a b)
difference ps bs t u = at_node ps bs t u
