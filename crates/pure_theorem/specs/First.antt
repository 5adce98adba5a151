-- The first element of a list with a property.
use Rattle.std.specs.Prelude.{◌≡◌, ◌⊎◌, ℕ, List, ◌∷◌, ◌++◌, length}
use Rattle.pure_text.specs.Lists.{Each}
use Rattle.pure_definitions.specs.Terms.Term.{Term}
use Rattle.pure_definitions.specs.Terms.Bounds.{Occurs}
use Rattle.pure_definitions.specs.Terms.Limits.{cut_off}
use Rattle.pure_logic.specs.Derivable.{Pair}

-- The first element with the property stands at this place, cut off at the greatest number of a call.
pub record IsFirstWith {A : Type 0} (P : A → Type 0) (xs : List A) (which : ℕ) : Type 0 where
  pub front : List A
  pub element : A
  pub rest : List A
  pub is : xs ≡ front ++ element ∷ rest
  pub lacking : Each (λ x. ¬ P x) front
  pub has : P element
  pub place : which ≡ cut_off (length front)

-- The term occurs in one of the pair's sides.
abbrev pub OccursInPair : Term → Pair → Type 0
OccursInPair v p = Occurs v p.left ⊎ Occurs v p.right
