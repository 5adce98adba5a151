-- Lists of texts, and what goes into them.
use Rattle.std.specs.Prelude.{◌⊎◌, ◌↔◌, ℕ, List}
use Rattle.pure_text.specs.Lists.{IsIn}

-- The second list has the texts that the first has, and those with the property.
pub record Gains (old new : List (List ℕ)) (P : List ℕ → Type 0) : Type 0 where
  pub texts : (t : List ℕ) → IsIn t new ↔ (IsIn t old ⊎ P t)
