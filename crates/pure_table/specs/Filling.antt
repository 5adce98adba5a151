-- The rows of lemmas put into the places that theories left for them.
use Rattle.std.specs.Prelude.{◌≡◌, List, [], ◌∷◌, ◌++◌, take, drop, Option, Some, None}
use Rattle.pure_print.specs.declared.row.Row.{Row}
use Rattle.pure_theory_run.specs.Outline.{Outline, Barred, Ran}

-- the rows that a theory leaves, with an open place for each lemma
abbrev pub places_of : Outline → List (Option Row)
places_of (Barred row) = Some row ∷ []
places_of (Ran rows last) = rows

-- the rows, with those of the lemmas, in order, in the open places
abbrev pub filled : List (Option Row) → (lemmas : List Row) → List Row
filled [] lemmas = []
filled (Some row ∷ places) lemmas = row ∷ filled places lemmas
filled (None ∷ places) lemmas = take 1 lemmas ++ filled places (drop 1 lemmas)

-- Between two states of what takes rows, these places are filled: behind the rows that were taken before come those that fill the places, and these rows of lemmas are left.
abbrev pub Fills : (old new : List Row → Type 0) → List (Option Row) → (lemmas left : List Row) → Type 0
Fills old new places lemmas left = (rows : List Row) → old rows → (all : List Row) × new all × ((more : List (Option Row)) → all ++ filled more left ≡ rows ++ filled (places ++ more) lemmas)
