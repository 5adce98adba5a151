-- The imports among files, and what they refuse.
use Rattle.std.specs.Prelude.{◌≡◌, ◌⊎◌, ℕ, not, List, [], ◌∷◌, ◌++◌, Option, Some, None, if◌then◌else◌}
use Rattle.std.specs.List.{list_any, filter}
use Rattle.pure_text.specs.Lists.{IsIn, Each, EachTwo}
use Rattle.pure_grammar.specs.Theories.Lexeme.{same}
use Rattle.pure_grammar.specs.Theories.TheoryText.{TheoryText}
use Rattle.pure_graph.specs.Outcome.{Outcome, Refused, Stands, pure_theory}
use Rattle.pure_graph.specs.Reading.{File}
use Rattle.pure_graph.specs.declared.outcome.Reason.{Reason}
use Rattle.pure_graph.specs.declared.outcome.Reason.TheVariants.{NoFile, CyclicImports, ParentRefused}

-- the imports other than Pure, which always means the built-in theory
abbrev pub other_than_pure : List (List ℕ) → List (List ℕ)
other_than_pure imports = filter (λ p. not (same p pure_theory)) imports

abbrev pub named_imports : TheoryText → List (List ℕ)
named_imports text = other_than_pure text.imports

abbrev pub imports_of : Outcome → List (List ℕ)
imports_of (Refused reason) = []
imports_of (Stands source text) = named_imports text

-- the first import that isn't listed
abbrev pub first_absent : (listed imports : List (List ℕ)) → Option (List ℕ)
first_absent listed [] = None
first_absent listed (p ∷ imports) = if list_any (same p) listed then first_absent listed imports else Some p

abbrev pub without : Option (List ℕ) → Outcome → Outcome
without None outcome = outcome
without (Some absent) outcome = Refused (NoFile absent)

-- a file whose first absent import refuses it
abbrev pub linked : (listed : List (List ℕ)) → File → File
linked listed file = record { theory = file.theory; outcome = without (first_absent listed (imports_of file.outcome)) file.outcome }

-- the file of this theory is among the files, and stands
abbrev pub HasStood : List File → List ℕ → Type 0
HasStood files theory = (source : List ℕ) × (text : TheoryText) × IsIn (record { theory = theory; outcome = Stands source text }) files

-- of the files the first stands and imports the second
abbrev pub Imports : List File → (theory parent : List ℕ) → Type 0
Imports files theory parent =
    (source : List ℕ) × (text : TheoryText) × IsIn (record { theory = theory; outcome = Stands source text }) files × IsIn parent (named_imports text)

-- The first imports the second, or imports one that does, and so on, all of them files that stand.
pub data Reaches (files : List File) : (theory ancestor : List ℕ) → Type 0 where
  directly : {t u : List ℕ} → Imports files t u → HasStood files u → Reaches files t u
  through : {t u v : List ℕ} → Imports files t u → Reaches files u v → Reaches files t v

-- the theory lies on a cycle of imports
abbrev pub IsCyclic : List File → List ℕ → Type 0
IsCyclic files theory = Reaches files theory theory

-- The file of this theory is refused: by a test before, since it lies on a cycle, or since an import is refused.
pub data IsRefused (files : List File) : (theory : List ℕ) → Type 0 where
  before : {t : List ℕ} → (reason : Reason) → IsIn (record { theory = t; outcome = Refused reason }) files → IsRefused files t
  on_cycle : {t : List ℕ} → IsCyclic files t → IsRefused files t
  by_parent : {t p : List ℕ} → Imports files t p → IsRefused files p → IsRefused files t

-- the first of the imports that is refused
pub record IsFirstRefused (files : List File) (imports : List (List ℕ)) (parent : List ℕ) : Type 0 where
  pub front : List (List ℕ)
  pub back : List (List ℕ)
  pub parts : imports ≡ front ++ parent ∷ back
  pub kept : Each (λ p. ¬ IsRefused files p) front
  pub refused : IsRefused files parent

-- of a file that stands so far: a cycle refuses it, else its first refused import does, else it stands
abbrev pub IsStandingJudged : List File → (theory : List ℕ) → (imports : List (List ℕ)) → (so_far outcome : Outcome) → Type 0
IsStandingJudged files theory imports so_far outcome =
    (IsCyclic files theory × (outcome ≡ Refused CyclicImports))
    ⊎ ((¬ IsCyclic files theory) × (((parent : List ℕ) × IsFirstRefused files imports parent × (outcome ≡ Refused (ParentRefused parent)))
    ⊎ (Each (λ p. ¬ IsRefused files p) imports × (outcome ≡ so_far))))

-- what the imports among the files say of one of them
abbrev pub IsOutcomeJudged : List File → (theory : List ℕ) → (so_far outcome : Outcome) → Type 0
IsOutcomeJudged files theory (Refused reason) outcome = outcome ≡ Refused reason
IsOutcomeJudged files theory (Stands source text) outcome = IsStandingJudged files theory (named_imports text) (Stands source text) outcome

-- the files behind the tests on cycles and refused imports
abbrev pub AreJudged : (files judged : List File) → Type 0
AreJudged files judged = EachTwo (λ f j. (j.theory ≡ f.theory) × IsOutcomeJudged files f.theory f.outcome j.outcome) files judged
