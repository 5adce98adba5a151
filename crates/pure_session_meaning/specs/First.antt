-- What became of the theories of a session while commands had no haves, and what they left; and laws that it is so still where none has any.
use Rattle.std.specs.Prelude.{◌≡◌, ◌↔◌, ℕ, suc, List, [], ◌∷◌, length, Some, slice_get}
use Rattle.std.specs.List.{flat_map}
use Rattle.pure_text.specs.Lists.{Each}
use Rattle.pure_logic.specs.Content.{Content}
use Rattle.pure_print.specs.declared.row.Row.{Row}
use Rattle.pure_graph.specs.Order.{Loaded}
use Rattle.pure_session_laws.specs.Declare.Notes.{Fork, Note}
use Rattle.pure_session_laws.specs.Declare.First.{AreDeclared}
use Rattle.pure_session_laws.specs.Declare.Plain.{IsPlain}
use Rattle.pure_session_laws.specs.Loaded.{IsLoadedSession}
use Rattle.pure_session_meaning.specs.Verdicts.{Verdict, Barred, Ran, IsTheoryAt, Begins, IsBarred}
use Rattle.pure_session_meaning.specs.Verdicts as whole
use Rattle.pure_session_meaning.specs.Statements.{notes_of}
use Rattle.pure_session_meaning.specs.Statements as whole_statements
use Rattle.pure_session_meaning.specs.Laws.{IsSomeFork}

-- What becomes of the session's theory with this index, whose parents have closed: it is refused when it begins, or its commands run, one after the other, each over the content that those before it leave, and leave one note each.
mutual
  pub data Closes (texts : List (List ℕ)) (theories : List Loaded) : (index : ℕ) → Verdict → Type 0 where
    barred : {index : ℕ} {theory : Loaded} {parents : List Verdict} {row : Row} → IsTheoryAt theories index theory → AllClose texts theories theory.parents parents
        → IsBarred texts theories theory parents row → Closes texts theories index (Barred row)
    ran : {index : ℕ} {theory : Loaded} {parents : List Verdict} {first last : Content} {notes : List Note} → IsTheoryAt theories index theory → AllClose texts theories theory.parents parents
        → Begins texts index theory parents first → AreDeclared texts theory.source index 0 first theory.text.commands notes last → Closes texts theories index (Ran notes last)

  pub data AllClose (texts : List (List ℕ)) (theories : List Loaded) : (indexes : List ℕ) → List Verdict → Type 0 where
    nothing : AllClose texts theories [] []
    also : {index : ℕ} {indexes : List ℕ} {verdict : Verdict} {verdicts : List Verdict} → Closes texts theories index verdict → AllClose texts theories indexes verdicts
        → AllClose texts theories (index ∷ indexes) (verdict ∷ verdicts)

-- These became of the first theories of the session, as many as there are, in load order.
abbrev pub AreVerdicts : (texts : List (List ℕ)) → (theories : List Loaded) → List Verdict → Type 0
AreVerdicts texts theories verdicts = (place : ℕ) (v : Verdict) → slice_get verdicts place ≡ Some v → Closes texts theories (suc place) v

-- The theories, one after the other in load order, leave these notes.
pub record AreStatements (texts : List (List ℕ)) (theories : List Loaded) (notes : List Note) : Type 0 where
  pub verdicts : List Verdict
  pub are : AreVerdicts texts theories verdicts
  pub all : length verdicts ≡ length theories
  pub notes_are : notes ≡ flat_map notes_of verdicts

-- No command of the theory has haves.
abbrev pub HasNoHaves : Loaded → Type 0
HasNoHaves l = Each IsPlain l.text.commands

-- Of theories without haves the same becomes.
abbrev pub ClosesAsFirst : Type 0
ClosesAsFirst = (texts : List (List ℕ)) (theories : List Loaded) → Each HasNoHaves theories
    → (index : ℕ) (v : Verdict) → whole.Closes texts theories index v ↔ Closes texts theories index v

-- So they leave the same notes.
abbrev pub StatementsAsFirst : Type 0
StatementsAsFirst = (texts : List (List ℕ)) (theories : List Loaded) → Each HasNoHaves theories
    → (notes : List Note) → whole_statements.AreStatements texts theories notes ↔ AreStatements texts theories notes

-- The lemma has the label that it had, with 0 as its part, and its proof is in no lemma but itself.
pub record IsFirstFork (f : Fork) : Type 0 where
  pub part : f.label.part ≡ 0
  pub lemma : f.lemma ≡ f.name

-- Each lemma that they bind is so.
abbrev pub ForksAsFirst : Type 0
ForksAsFirst = (texts : List (List ℕ)) (theories : List Loaded) → IsLoadedSession texts theories → Each HasNoHaves theories → (f : Fork) → IsSomeFork texts theories f → IsFirstFork f
