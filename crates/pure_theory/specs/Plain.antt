-- Theories whose texts look-ups tell from others.
use Rattle.std.specs.Prelude.{◌≢◌, ℕ, List}
use Rattle.pure_text.specs.Lists.{IsIn}
use Rattle.pure_typ.specs.NameTexts.{HasText}
use Rattle.pure_logic.specs.Content.{TheoryId}
use Rattle.pure_lookup.specs.Meaning.{pure_text}

-- The text has no dot (46), and isn't that of Pure.
abbrev pub IsPlain : List ℕ → Type 0
IsPlain text = (¬ IsIn 46 text) × (text ≢ pure_text)

-- The text of the theory's name, if it has one, is plain.
abbrev pub IsPlainlyNamed : (texts : List (List ℕ)) → TheoryId → Type 0
IsPlainlyNamed texts t = (text : List ℕ) → HasText texts t.name text → IsPlain text
