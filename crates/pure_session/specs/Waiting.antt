-- Theories that wait for their imports.
use Rattle.std.specs.Prelude.{◌≡◌, ◌<◌, ℕ, Bool, true, false, not, List, length, map, take, get_or, nat_eq, Option, Some, None}
use Rattle.std.specs.List.{list_all}
use Rattle.pure_text.specs.Lists.{Each}
use Rattle.pure_script.specs.Seen.{seen_theory}
use Rattle.pure_graph.specs.Reading.{File}
use Rattle.pure_graph.specs.Graph.{named_imports}
use Rattle.pure_graph.specs.Order as spec
use Rattle.pure_session.specs.Places.{place_in}
use Rattle.pure_session.specs.declared.order.Waiting.{Waiting}
use Rattle.pure_session.specs.declared.order.Loaded.{Loaded}

-- the file of a theory that waits
abbrev pub waiting_file : Waiting → File
waiting_file w = spec.file_of w.name w.source (seen_theory w.text)

abbrev pub waiting_files : List Waiting → List File
waiting_files = map waiting_file

-- the places of its imports
abbrev pub HasPlaces : (names : List (List ℕ)) → Waiting → Type 0
HasPlaces names w = w.places.items ≡ map (place_in names) (named_imports (seen_theory w.text))

-- the imports at these places have an index, those that don't wait any more
abbrev pub are_taken : (index places : List ℕ) → Bool
are_taken index places = list_all (λ p. not (nat_eq (get_or index p 0) 0)) places

-- The first that has all its imports taken stands at this place; or there is none.
abbrev pub IsFirstReady : (index : List ℕ) → List Waiting → Option ℕ → Type 0
IsFirstReady index rest None = Each (λ w. are_taken index w.places.items ≡ false) rest
IsFirstReady index rest (Some at) = (at < length rest) × Each (λ w. are_taken index w.places.items ≡ false) (take at rest) × ((d : Waiting) → are_taken index (get_or rest at d).places.items ≡ true)

abbrev pub seen_loaded : Loaded → spec.Loaded
seen_loaded l = record { name = l.name; parents = l.parents.items; source = l.source; text = seen_theory l.text }

abbrev pub all_loaded : List Loaded → List spec.Loaded
all_loaded = map seen_loaded
