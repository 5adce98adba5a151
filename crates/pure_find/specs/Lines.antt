-- What is written of facts and how they stand to a statement.
use Rattle.std.specs.Prelude.{ℕ, Bool, true, false, List, [], ◌∷◌, ◌++◌, codes, nat_lt}
use Rattle.std.specs.List.{count_by}
use Rattle.std.specs.Fmt.{decimal}
use Rattle.pure_find.specs.declared.standing.Standing.{Standing}
use Rattle.pure_find.specs.declared.standing.Standing.TheVariants.{Match, Maybe, NoMatch}
use Rattle.pure_find.specs.Facts.{Fact}

unfoldable pub match_text : List ℕ
match_text = codes "match "

unfoldable pub maybe_text : List ℕ
maybe_text = codes "maybe "

-- the line of a fact: it names one that matches or may match, and of others there is none
abbrev pub line_of : Standing → (name : List ℕ) → List ℕ
line_of Match name = match_text ++ (name ++ 10 ∷ [])
line_of Maybe name = maybe_text ++ (name ++ 10 ∷ [])
line_of NoMatch name = []

-- the lines of the facts, in order
abbrev pub lines_of : List Fact → List Standing → List ℕ
lines_of (f ∷ fs) (s ∷ ss) = line_of s f.name ++ lines_of fs ss
lines_of _ _ = []

abbrev pub is_match : Standing → Bool
is_match Match = true
is_match _ = false

abbrev pub is_maybe : Standing → Bool
is_maybe Maybe = true
is_maybe _ = false

abbrev pub is_no_match : Standing → Bool
is_no_match NoMatch = true
is_no_match _ = false

unfoldable pub total_text : List ℕ
total_text = codes "total: "

unfoldable pub matches_text : List ℕ
matches_text = codes " match, "

unfoldable pub maybes_text : List ℕ
maybes_text = codes " maybe, "

unfoldable pub none_text : List ℕ
none_text = codes " none"

-- a number, and what there are so many of
abbrev pub count_text : (number : ℕ) → (word : List ℕ) → List ℕ
count_text number word = decimal number ++ word

-- `total: 1 match, 4 maybe, 2 none`: how many facts match, how many may match, and how many don't
abbrev pub total_line : List Standing → List ℕ
total_line ss =
    total_text ++ (count_text (count_by is_match ss) matches_text ++ (count_text (count_by is_maybe ss) maybes_text ++ (count_text (count_by is_no_match ss) none_text ++ 10 ∷ [])))

-- the whole text: the lines, and the total
abbrev pub found_text : List Fact → List Standing → List ℕ
found_text fs ss = lines_of fs ss ++ total_line ss

-- whether some fact matches
abbrev pub is_clean : List Standing → Bool
is_clean ss = nat_lt 0 (count_by is_match ss)
