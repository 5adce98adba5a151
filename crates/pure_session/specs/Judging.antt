-- What a graph of the files says of each.
use Rattle.std.specs.Prelude.{◌≡◌, ◌↔◌, ◌<◌, ℕ, suc, Bool, true, false, List, [], ◌∷◌, get_or, MatchBool, Option, Some, None, if◌then◌else◌}
use Rattle.std.specs.List.{find}
use Rattle.std.specs.List.Sorted.{IsStrictlySortedBy}
use Rattle.std.specs.Ordering.{nat_cmp}
use Rattle.std.specs.Cmp.Lexicographic.{slice_cmp}
use Rattle.pure_text.specs.Lists.{IsIn}
use Rattle.pure_grammar.specs.Theories.TheoryText.{TheoryText}
use Rattle.pure_graph.specs.Outcome.{Outcome, Refused, Stands}
use Rattle.pure_graph.specs.Reading.{File}
use Rattle.pure_graph.specs.Graph.{HasStood, Imports, IsCyclic, IsRefused, named_imports}
use Rattle.pure_session.specs.ImportGraph.{theories}
use Rattle.pure_session.specs.Places.{place_in, is_marked}
use Rattle.pure_graph.specs.declared.outcome.Reason.{Reason}
use Rattle.pure_graph.specs.declared.outcome.Reason.TheVariants.{CyclicImports, ParentRefused}

-- how many places of a row are marked
abbrev pub marks : List Bool → ℕ
marks [] = 0
marks (true ∷ row) = suc (marks row)
marks (false ∷ row) = marks row

-- the number of places that a theory reaches
abbrev pub reach_of : (names : List (List ℕ)) → (rows : List (List Bool)) → (theory : List ℕ) → ℕ
reach_of names rows theory = marks (get_or rows (place_in names theory) [])

-- The graph tells which files lie on a cycle and which are refused; a file that isn't refused reaches more than its imports do.
pub record IsGraphOf (files : List File) (names : List (List ℕ)) (rows : List (List Bool)) (lost : List Bool) : Type 0 where
  pub ascend : IsStrictlySortedBy (slice_cmp nat_cmp) names
  pub cyclic : (theory : List ℕ) → HasStood files theory → (is_marked rows (place_in names theory) (place_in names theory) ≡ true) ↔ IsCyclic files theory
  pub refused : (theory : List ℕ) → IsIn theory (theories files) → MatchBool (get_or lost (place_in names theory) true) (IsRefused files theory) (¬ IsRefused files theory)
  pub falls : (theory parent : List ℕ) → Imports files theory parent → (¬ IsRefused files theory) → reach_of names rows parent < reach_of names rows theory

abbrev pub by_parent_if : Option (List ℕ) → Option Reason
by_parent_if None = None
by_parent_if (Some parent) = Some (ParentRefused parent)

-- why the graph refuses a theory that stood so far
abbrev pub verdict : (names : List (List ℕ)) → (rows : List (List Bool)) → (lost : List Bool) → (theory : List ℕ) → TheoryText → Option Reason
verdict names rows lost theory text =
    if is_marked rows (place_in names theory) (place_in names theory) then Some CyclicImports
    else by_parent_if (find (λ p. get_or lost (place_in names p) true) (named_imports text))

abbrev pub unless : Option Reason → Outcome → Outcome
unless None outcome = outcome
unless (Some reason) outcome = Refused reason

abbrev pub judged_outcome : (names : List (List ℕ)) → (rows : List (List Bool)) → (lost : List Bool) → (theory : List ℕ) → Outcome → Outcome
judged_outcome names rows lost theory (Refused reason) = Refused reason
judged_outcome names rows lost theory (Stands source text) = unless (verdict names rows lost theory text) (Stands source text)

abbrev pub judged_file : (names : List (List ℕ)) → (rows : List (List Bool)) → (lost : List Bool) → File → File
judged_file names rows lost file = record { theory = file.theory; outcome = judged_outcome names rows lost file.theory file.outcome }
