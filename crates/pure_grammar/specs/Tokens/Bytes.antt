-- Classes of bytes, and texts by their fronts.
use Rattle.std.specs.Prelude.{ℕ, ◌==◌, Bool, true, false, ◌||◌, ◌&&◌, List, [], ◌∷◌, if◌then◌else◌}
use Rattle.std.specs.Char.{is_ascii_alphabetic, is_ascii_digit}

abbrev pub dot : ℕ
dot = 46

abbrev pub apostrophe : ℕ
apostrophe = 39

abbrev pub question_mark : ℕ
question_mark = 63

abbrev pub underscore : ℕ
underscore = 95

abbrev pub quotation_mark : ℕ
quotation_mark = 34

-- `A` to `Z` and `a` to `z`
unfoldable pub is_letter : ℕ → Bool
is_letter b = is_ascii_alphabetic b

-- `0` to `9`
unfoldable pub is_digit : ℕ → Bool
is_digit b = is_ascii_digit b

-- a letter, a digit, `_` or `'`
unfoldable pub is_name_byte : ℕ → Bool
is_name_byte b = is_letter b || (is_digit b || ((b == underscore) || (b == apostrophe)))

-- a space, a tab, a carriage return or a line feed
unfoldable pub is_blank : ℕ → Bool
is_blank b = (b == 32) || ((b == 9) || ((b == 13) || (b == 10)))

abbrev pub is_empty : List ℕ → Bool
is_empty [] = true
is_empty (b ∷ bs) = false

-- the text has a first byte, and it passes the test
abbrev pub head_is : (ℕ → Bool) → List ℕ → Bool
head_is test [] = false
head_is test (b ∷ bs) = test b

-- the text is this mark and a text that passes the test
abbrev pub marked : ℕ → (List ℕ → Bool) → List ℕ → Bool
marked mark test [] = false
marked mark test (b ∷ bs) = (b == mark) && test bs

-- what stands behind the bytes at the front that pass the test
abbrev pub behind : (ℕ → Bool) → List ℕ → List ℕ
behind test [] = []
behind test (b ∷ bs) = if test b then behind test bs else (b ∷ bs)
