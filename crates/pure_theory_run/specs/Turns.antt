-- What one turn of a run gives.
use Rattle.std.specs.Prelude.{◌≡◌, ◌<◌, ℕ, List, [], ◌∷◌, ◌++◌}
use Rattle.pure_print.specs.declared.row.Row.{Row}
use Rattle.pure_graph.specs.Order.{Loaded}
use Rattle.pure_session_meaning.specs.Declare.Notes.{Note, Said, Forked}
use Rattle.pure_session_meaning.specs.Declare.Seen.{seen_notes}
use Rattle.pure_session_meaning.specs.Verdicts.{Verdict, Closes}
use Rattle.pure_session_meaning.specs.Statements.{notes_of, forks_of}
use Rattle.pure_theory_run.specs.Outline.{Outline, outline, row_of}
use Rattle.pure_theory_run.specs.Runs.{IsGoing, IsRunOf, notes_left, turns_left}
use Rattle.pure_theory_run.specs.declared.run.Going.{Going}
use Rattle.pure_theory_run.specs.declared.run.Run.{Run}
use Rattle.pure_theory_run.specs.declared.run.Turn.{Turn}
use Rattle.pure_theory_run.specs.declared.run.Turn.TheVariants.{Declared, Forked as Forks, Closed}

-- The theory with this index closes with this value, and the lemmas and haves that it bound are those of these notes.
pub record ClosesWith (texts : List (List ℕ)) (theories : List Loaded) (index : ℕ) (notes : List Note) (value : Outline) : Type 0 where
  pub verdict : Verdict
  pub closes : Closes texts theories index verdict
  pub value_is : value ≡ outline verdict
  pub forks : forks_of (notes_of verdict) ≡ forks_of notes

-- A turn that declares leaves a row more, one that forks a lemma or have, under the command of its label, leaves this, and both leave fewer turns; one that closes comes where no turn is left, and gives what is left of what became of the theory.
abbrev pub IsTurn : (texts : List (List ℕ)) → (theories : List Loaded) → (index : ℕ) → (notes : List Note) → (old new : Run) → Turn → Type 0
IsTurn texts theories index notes old new Declared = (row : Row) × IsRunOf texts theories index (notes ++ Said row ∷ []) new × (turns_left new < turns_left old)
IsTurn texts theories index notes old new (Forks command goal) = IsRunOf texts theories index (notes ++ Forked goal ∷ []) new × (turns_left new < turns_left old) × (command ≡ goal.label.command)
IsTurn texts theories index notes old new (Closed value) = (turns_left old ≡ 0) × ClosesWith texts theories index notes value

-- the same of a theory that wasn't refused when it began
abbrev pub IsGoingTurn : (texts : List (List ℕ)) → (theories : List Loaded) → (index : ℕ) → (notes : List Note) → (old new : Going) → Turn → Type 0
IsGoingTurn texts theories index notes old new Declared = (row : Row) × IsGoing texts theories index (notes ++ Said row ∷ []) new × (notes_left new < notes_left old)
IsGoingTurn texts theories index notes old new (Forks command goal) = IsGoing texts theories index (notes ++ Forked goal ∷ []) new × (notes_left new < notes_left old) × (command ≡ goal.label.command)
IsGoingTurn texts theories index notes old new (Closed value) = (notes_left old ≡ 0) × ClosesWith texts theories index notes value

-- the turn that hands out this note
abbrev pub turn_of : Note → Turn
turn_of (Said row) = Declared
turn_of (Forked goal) = Forks goal.label.command goal

-- The first of the notes that wait is handed out: its row, or a hole for that of a lemma or have, is put behind the others, and the turn is the note's.
pub record HandsOut (old new : Going) (turn : Turn) : Type 0 where
  pub note : Note
  pub waiting : seen_notes old.waiting.items ≡ note ∷ seen_notes new.waiting.items
  pub rows : new.rows.items ≡ old.rows.items ++ row_of note ∷ []
  pub content : new.now.value ≡ old.now.value
  pub left : new.left ≡ old.left
  pub parts : new.parts ≡ old.parts
  pub turn_is : turn ≡ turn_of note
