-- The texts of names: those that Pure itself declares have the first six, the session's the next, and greater names have none.
use Rattle.std.specs.Prelude.{◌≡◌, ◌≢◌, ℕ, ◌<◌, List, [], ◌∷◌, ◌++◌, length, codes, Option, Some, None, slice_get, slice_index_or}
use Rattle.std.specs.declared.cmp.Ordering.TheVariants.{Less}
use Rattle.std.specs.Ordering.{nat_cmp}
use Rattle.std.specs.Cmp.Lexicographic.{slice_cmp}
use Rattle.pure_text.specs.Lists.{IsIn}

-- the texts of the names 0 to 5
unfoldable pub builtin_texts : List (List ℕ)
builtin_texts = codes "Pure.fun" ∷ codes "Pure.prop" ∷ codes "Pure.all" ∷ codes "Pure.imp" ∷ codes "Pure.eq" ∷ codes "Pure.protect" ∷ []

-- the texts of all names that have one, in order of their numbers, where the session has these
abbrev pub name_texts : List (List ℕ) → List (List ℕ)
name_texts texts = builtin_texts ++ texts

-- Name n has this text.
abbrev pub HasText : (texts : List (List ℕ)) → (n : ℕ) → (text : List ℕ) → Type 0
HasText texts n text = slice_get (name_texts texts) n ≡ Some text

-- Each text is below those after it, in byte order.
abbrev pub DoAscend : List (List ℕ) → Type 0
DoAscend texts = (i j : ℕ) (d : List ℕ) → i < j → j < length texts → slice_cmp nat_cmp (slice_index_or texts i d) (slice_index_or texts j d) ≡ Less

-- The texts of a session: they ascend, none is the text of a name of Pure, and there are fewer than 2^31.
pub record AreSessionTexts (texts : List (List ℕ)) : Type 0 where
  pub ascend : DoAscend texts
  pub others : (m n : ℕ) (text : List ℕ) → slice_get builtin_texts m ≡ Some text → slice_get texts n ≢ Some text
  pub few : length texts < 2147483648

-- The answer to the question which name has the text: that name, or none where no name has it.
abbrev pub IsFound : (texts : List (List ℕ)) → (text : List ℕ) → Option ℕ → Type 0
IsFound texts text (Some n) = slice_get texts n ≡ Some text
IsFound texts text None = (n : ℕ) → slice_get texts n ≢ Some text

-- The text is `theory.base` for the text of some theory, which has no dot (46).
abbrev pub HasBase : (base text : List ℕ) → Type 0
HasBase base text = (theory : List ℕ) × (¬ IsIn 46 theory) × (text ≡ theory ++ 46 ∷ base)

-- Name n has a text with this base.
abbrev pub NameHasBase : (texts : List (List ℕ)) → (base : List ℕ) → (n : ℕ) → Type 0
NameHasBase texts base n = (text : List ℕ) × HasText texts n text × HasBase base text
