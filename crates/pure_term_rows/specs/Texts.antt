-- What is tested of the texts of a session.
use Rattle.std.specs.Prelude.{◌≡◌, ◌≢◌, ℕ, ◌<◌, List, Some, slice_get, slice_index_or}
use Rattle.std.specs.declared.cmp.Ordering.TheVariants.{Less}
use Rattle.std.specs.Ordering.{nat_cmp}
use Rattle.std.specs.Cmp.Lexicographic.{slice_cmp}
use Rattle.pure_typ.specs.NameTexts.{builtin_texts}

-- The second text is below the first.
unfoldable pub IsBelow : (text lower : List ℕ) → Type 0
IsBelow text lower = slice_cmp nat_cmp lower text ≡ Less

-- The text is that of no name of Pure.
unfoldable pub IsOther : List ℕ → Type 0
IsOther text = (m : ℕ) → slice_get builtin_texts m ≢ Some text

-- Each of the first so many texts is below those after it among them.
abbrev pub AscendTo : ℕ → List (List ℕ) → Type 0
AscendTo count texts = (i j : ℕ) (d : List ℕ) → i < j → j < count → slice_cmp nat_cmp (slice_index_or texts i d) (slice_index_or texts j d) ≡ Less
