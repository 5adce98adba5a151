-- Theories that run.
use Rattle.std.specs.Prelude.{◌≡◌, ℕ, ◌+◌, List, [], ◌++◌, length}
use Rattle.pure_grammar.specs.Theories.TheoryText.{Command}
use Rattle.pure_logic.specs.Content.{Content}
use Rattle.pure_print.specs.declared.row.Row.{Row}
use Rattle.pure_graph.specs.Order.{Loaded}
use Rattle.pure_graph.specs.Outcome.{part_count}
use Rattle.pure_session_meaning.specs.Declare.Notes.{Note}
use Rattle.pure_session_meaning.specs.Declare.Seen.{seen_notes}
use Rattle.pure_session_meaning.specs.Verdicts.{Verdict, IsTheoryAt, IsBarred, AllClose}
use Rattle.pure_session_meaning.specs.Statements.{IsRun}
use Rattle.pure_theory_run.specs.Outline.{rows_of}
use Rattle.pure_theory_run.specs.declared.run.Going.{Going}
use Rattle.pure_theory_run.specs.declared.run.Standing.{Standing}
use Rattle.pure_theory_run.specs.declared.run.Standing.TheVariants as code
use Rattle.pure_theory_run.specs.declared.run.Run.{Run}

-- By this row the theory with this index is refused when it begins.
pub record IsBarredBy (texts : List (List ℕ)) (theories : List Loaded) (index : ℕ) (row : Row) : Type 0 where
  pub theory : Loaded
  pub is_at : IsTheoryAt theories index theory
  pub parents : List Verdict
  pub closed : AllClose texts theories theory.parents parents
  pub barred : IsBarred texts theories theory parents row

-- The theory with this index has run up to here: its first commands left these notes and this content, and so many commands are left, with so many parts.
pub record IsUnderWay (texts : List (List ℕ)) (theories : List Loaded) (index : ℕ) (notes : List Note) (now : Content) (left parts : ℕ) : Type 0 where
  pub commands : List Command
  pub run : IsRun texts theories index notes now commands
  pub count : left ≡ length commands
  pub parts_are : parts ≡ part_count commands

-- The theory with this index has run up to here, and these notes were handed out: with those that wait behind them they are all notes of its first commands. The program holds the rows of those that were handed out, and the content behind those that wait.
pub record IsGoing (texts : List (List ℕ)) (theories : List Loaded) (index : ℕ) (notes : List Note) (going : Going) : Type 0 where
  pub way : IsUnderWay texts theories index (notes ++ seen_notes going.waiting.items) going.now.value going.left going.parts
  pub rows : going.rows.items ≡ rows_of notes

-- The theory with this index was refused when it began, without notes, or it has run up to here and handed out these.
abbrev pub IsStandingOf : (texts : List (List ℕ)) → (theories : List Loaded) → (index : ℕ) → (notes : List Note) → Standing → Type 0
IsStandingOf texts theories index notes (code.Barred row) = (notes ≡ []) × IsBarredBy texts theories index row
IsStandingOf texts theories index notes (code.Going going) = IsGoing texts theories index notes going

-- The program runs the theory with this index: it was refused when it began, or its first commands left these notes, those that still wait behind them left out.
pub record IsRunOf (texts : List (List ℕ)) (theories : List Loaded) (index : ℕ) (notes : List Note) (run : Run) : Type 0 where
  pub index_is : run.index ≡ index
  pub standing : IsStandingOf texts theories index notes run.standing

-- The program holds the same rows and content, as many commands and parts are left, and the same notes wait.
pub record IsSameGoing (old new : Going) : Type 0 where
  pub rows : new.rows.items ≡ old.rows.items
  pub content : new.now.value ≡ old.now.value
  pub left : new.left ≡ old.left
  pub parts : new.parts ≡ old.parts
  pub waiting : new.waiting.items ≡ old.waiting.items

-- The theory was refused by the same row, or it has run as far.
abbrev pub IsSameStanding : (old new : Standing) → Type 0
IsSameStanding (code.Barred old) (code.Barred new) = new ≡ old
IsSameStanding (code.Barred old) (code.Going new) = ⊥
IsSameStanding (code.Going old) (code.Barred new) = ⊥
IsSameStanding (code.Going old) (code.Going new) = IsSameGoing old new

-- The same theory runs, and it stands where it stood.
pub record IsSameRun (old new : Run) : Type 0 where
  pub index : new.index ≡ old.index
  pub standing : IsSameStanding old.standing new.standing

-- how many notes are left at most: one for each part of the commands that are left, and those that wait
abbrev pub notes_left : Going → ℕ
notes_left going = going.parts + length going.waiting.items

-- how many turns are left at most of a run before the one that closes it: each hands out a note
abbrev pub left_of : Standing → ℕ
left_of (code.Barred row) = 0
left_of (code.Going going) = notes_left going

-- the same of a run as the program holds it
abbrev pub turns_left : Run → ℕ
turns_left run = left_of run.standing
