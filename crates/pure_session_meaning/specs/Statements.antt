-- What the statements of a session leave: the notes of all theories, and the lemmas and haves that are bound among them.
use Rattle.std.specs.Prelude.{◌≡◌, ℕ, suc, List, [], ◌∷◌, ◌++◌, length, Some, slice_get}
use Rattle.std.specs.List.{flat_map}
use Rattle.pure_grammar.specs.Theories.TheoryText.{Command}
use Rattle.pure_logic.specs.Content.{Content}
use Rattle.pure_graph.specs.Order.{Loaded}
use Rattle.pure_session_laws.specs.Declare.Notes.{Fork, Note, Said, Forked}
use Rattle.pure_session_laws.specs.Declare.Fold.{AreDeclared}
use Rattle.pure_session_meaning.specs.Verdicts.{Verdict, Barred, Ran, IsTheoryAt, Begins, Closes, AllClose}

-- what a theory leaves in the table; one that is refused leaves its row
abbrev pub notes_of : Verdict → List Note
notes_of (Barred row) = Said row ∷ []
notes_of (Ran notes last) = notes

-- the lemmas and haves that are bound by these notes, in order
abbrev pub forks_of : List Note → List Fork
forks_of [] = []
forks_of (Said row ∷ notes) = forks_of notes
forks_of (Forked fork ∷ notes) = fork ∷ forks_of notes

-- These became of the first theories of the session, as many as there are, in load order.
abbrev pub AreVerdicts : (texts : List (List ℕ)) → (theories : List Loaded) → List Verdict → Type 0
AreVerdicts texts theories verdicts = (place : ℕ) (v : Verdict) → slice_get verdicts place ≡ Some v → Closes texts theories (suc place) v

-- The theories, one after the other in load order, leave these notes.
pub record AreStatements (texts : List (List ℕ)) (theories : List Loaded) (notes : List Note) : Type 0 where
  pub verdicts : List Verdict
  pub are : AreVerdicts texts theories verdicts
  pub all : length verdicts ≡ length theories
  pub notes_are : notes ≡ flat_map notes_of verdicts

-- The theory with this index has run up to here: these are all notes of its first commands, the content behind them, and the commands that are left. The next command's place is the number of those that are done.
pub record IsRun (texts : List (List ℕ)) (theories : List Loaded) (index : ℕ) (notes : List Note) (now : Content) (left : List Command) : Type 0 where
  pub theory : Loaded
  pub is_at : IsTheoryAt theories index theory
  pub parents : List Verdict
  pub closed : AllClose texts theories theory.parents parents
  pub first : Content
  pub begins : Begins texts index theory parents first
  pub done : List Command
  pub commands : theory.text.commands ≡ done ++ left
  pub declared : AreDeclared texts theory.source index 0 first done notes now

-- After so many others the theory with this index binds this lemma or have: it is among the notes of a run, where others of its command may come behind it.
pub record IsFork (texts : List (List ℕ)) (theories : List Loaded) (index others : ℕ) (fork : Fork) : Type 0 where
  pub notes : List Note
  pub more : List Note
  pub now : Content
  pub left : List Command
  pub run : IsRun texts theories index (notes ++ Forked fork ∷ more) now left
  pub count : length (forks_of notes) ≡ others
