-- What tables of labels hold.
use Rattle.std.specs.Prelude.{◌≡◌, ◌⊎◌, ℕ, Some}
use Rattle.std.specs.FinMap.{get}
use Rattle.pure_text.specs.Lists.{IsIn}
use Rattle.pure_definitions.specs.Names.{Label}
use Rattle.pure_theory_tables.specs.declared.labels.Labels.{Labels}
use Rattle.pure_theory_tables.specs.Keys.{label_key}

-- The name stands under the label's number, or is among the rest.
abbrev pub IsKept : Labels → (name : ℕ) → Label → Type 0
IsKept labels name label = (get labels.by_key (label_key label) ≡ Some name) ⊎ IsIn name labels.rest.value.items
