-- Numbers below the indexes of the variables that maps set.
use Rattle.std.specs.Prelude.{ℕ, ◌≤◌, List}
use Rattle.pure_text.specs.Lists.{Each}
use Rattle.pure_definitions.specs.Terms.Subst.{TypBind, TermBind}

-- The number is at most the index of each variable that the maps set.
pub record IsBelowSet (typs : List TypBind) (terms : List TermBind) (least : ℕ) : Type 0 where
  pub of_typs : Each (λ (b : TypBind). least ≤ b.index) typs
  pub of_terms : Each (λ (b : TermBind). least ≤ b.index) terms
