-- Lists of theories without repeats.
use Rattle.std.specs.Prelude.{List, [], ◌∷◌, ◌++◌, if◌then◌else◌}
use Rattle.std.specs.List.{list_any}
use Rattle.pure_logic.specs.Content.{TheoryId}
use Rattle.pure_logic.specs.Beginning.{theory_eq}

-- the list with the theory at the end, if it isn't there yet
abbrev pub once_more : List TheoryId → TheoryId → List TheoryId
once_more ts t = if list_any (theory_eq t) ts then ts else ts ++ t ∷ []

-- the list with each of the theories in turn
abbrev pub all_once_more : List TheoryId → List TheoryId → List TheoryId
all_once_more ts [] = ts
all_once_more ts (u ∷ us) = all_once_more (once_more ts u) us
