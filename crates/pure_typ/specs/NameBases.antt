-- The bases of names: what stands behind the first dot of their texts.
use Rattle.std.specs.Prelude.{◌≡◌, ◌==◌, if◌then◌else◌, ℕ, List, [], ◌∷◌, length, Bool, false, filter, Option, Some, None, slice_get, bytes_eq, Vec}
use Rattle.std.specs.Option.{option_and_then, option_map_or}
use Rattle.std.specs.List.{range_with_len}
use Rattle.std.specs.BTreeMap.{BTreeMap, get_by}
use Rattle.std.specs.declared.alloc.Global.{Global}
use Rattle.std.specs.Ordering.{nat_cmp}
use Rattle.std.specs.Cmp.Lexicographic.{slice_cmp}
use Rattle.pure_typ.specs.NameTexts.{name_texts}

-- what stands behind the text's first dot (46), if it has one
abbrev pub base_of : List ℕ → Option (List ℕ)
base_of [] = None
base_of (byte ∷ rest) = if byte == 46 then Some rest else base_of rest

-- the base of the text of name n, if it has a text with a base
abbrev pub name_base : (texts : List (List ℕ)) → (n : ℕ) → Option (List ℕ)
name_base texts n = option_and_then base_of (slice_get (name_texts texts) n)

-- whether the text of name n has this base
abbrev pub has_base : (texts : List (List ℕ)) → (base : List ℕ) → (n : ℕ) → Bool
has_base texts base n = option_map_or (bytes_eq base) (name_base texts n) false

-- the names whose texts have this base, ascending
abbrev pub names_with_base : (texts : List (List ℕ)) → (base : List ℕ) → List ℕ
names_with_base texts base = filter (has_base texts base) (range_with_len 0 (length (name_texts texts)))

-- the names that a map has for the base: none where it has no entry
abbrev pub names_at : BTreeMap (Vec ℕ Global) (Vec ℕ Global) → (base : List ℕ) → List ℕ
names_at map base = option_map_or (λ names. names.items) (get_by (λ key. slice_cmp nat_cmp base key.items) map) []

-- The map has for each base the names with it.
abbrev pub AreByBase : (texts : List (List ℕ)) → BTreeMap (Vec ℕ Global) (Vec ℕ Global) → Type 0
AreByBase texts map = (base : List ℕ) → names_at map base ≡ names_with_base texts base
