-- The texts of a table of names.
use Rattle.std.specs.Prelude.{◌↔◌, ℕ, List}
use Rattle.pure_text.specs.Lists.{IsIn}
use Rattle.pure_typ.specs.NameTexts.{builtin_texts}

-- The names of a table have these texts, but for those of Pure's own names, which stand in front of each table.
abbrev pub AreNamesOf : (texts names : List (List ℕ)) → Type 0
AreNamesOf texts names = (t : List ℕ) → IsIn t names ↔ (IsIn t texts × ¬ IsIn t builtin_texts)
