-- Finding: of the lemma with this full name among those that the library's theories bind, the facts are written of which its statement is or may be an instance, and their numbers.
use Rattle.std.specs.Prelude.{◌≡◌, ℕ, Bool, List, Option, None}
use Rattle.pure_io.specs.declared.library.File as library
use Rattle.pure_graph.specs.Session.{Session}
use Rattle.pure_check_work.specs.Declare.Notes.{Fork}
use Rattle.pure_check_work.specs.Method.declared.outcome.Outcome.{Outcome}
use Rattle.pure_check_work.specs.SessionLaws.Loaded.{IsLoadedSession}
use Rattle.pure_check_work.specs.TheoryRun.Checked.{Checked}
use Rattle.pure_check_work.specs.TheoryRun.Outline.{Outline}
use Rattle.pure_board.specs.Boards.{Ending}
use Rattle.pure_find.specs.Answers.{IsAnswer}
use Rattle.pure_check.specs.JobMeaning.{JobMeaning}
use Rattle.pure_check.specs.Meaning.{IsToldSession}
use Rattle.pure_check.specs.Sources.{OfLibrary}

-- The text says so of the lemma of a session of these files, and is clean where some fact matches. No board is handed out.
pub record IsFindAnswer (name : List ℕ) (files : Option (List library.File)) (run : Option (Ending Checked Fork Outline Outcome)) (text : List ℕ) (clean : Bool) : Type 0 where
  pub session : Session
  pub told : IsToldSession files session
  pub loaded : IsLoadedSession session.names session.theories
  pub is_answer : IsAnswer session.names session.theories name text clean
  pub no_board : run ≡ None

-- It has no numbers.
abbrev pub meaning : (name : List ℕ) → JobMeaning
meaning name = record {
  IsInRange = Unit {0};
  source = OfLibrary;
  IsAnswer = IsFindAnswer name;
}
