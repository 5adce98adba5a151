-- Trying: of the lemma with this full name among those that the library's theories bind, the first proof in one step is written, if there is one.
use Rattle.std.specs.Prelude.{◌≡◌, ◌≤◌, ℕ, Bool, List, Option, None}
use Rattle.pure_io.specs.declared.library.File as library
use Rattle.pure_graph.specs.Session.{Session}
use Rattle.pure_check_work.specs.Declare.Notes.{Fork}
use Rattle.pure_check_work.specs.Method.declared.outcome.Outcome.{Outcome}
use Rattle.pure_check_work.specs.SessionLaws.Loaded.{IsLoadedSession}
use Rattle.pure_check_work.specs.TheoryRun.Checked.{Checked}
use Rattle.pure_check_work.specs.TheoryRun.Outline.{Outline}
use Rattle.pure_board.specs.Boards.{Ending}
use Rattle.pure_try.specs.Answers.{IsAnswer, is_found, line_of}
use Rattle.pure_try.specs.declared.answer.Answer as tried
use Rattle.pure_check.specs.JobMeaning.{JobMeaning}
use Rattle.pure_check.specs.Meaning.{IsToldSession}
use Rattle.pure_check.specs.Sources.{OfLibrary}

-- The line says what comes of trying on the lemma of a session of these files; it is clean where a proof was found. No board is handed out.
pub record IsTryAnswer (name : List ℕ) (files : Option (List library.File)) (run : Option (Ending Checked Fork Outline Outcome)) (text : List ℕ) (clean : Bool) : Type 0 where
  pub session : Session
  pub told : IsToldSession files session
  pub loaded : IsLoadedSession session.names session.theories
  pub answer : tried.Answer
  pub is_answer : IsAnswer session.names session.theories name answer
  pub no_board : run ≡ None
  pub text_is : text ≡ line_of name answer
  pub clean_is : clean ≡ is_found answer

-- There are 1 to 64 workers.
abbrev pub meaning : (workers : ℕ) → (name : List ℕ) → JobMeaning
meaning workers name = record {
  IsInRange = (1 ≤ workers) × (workers ≤ 64);
  source = OfLibrary;
  IsAnswer = IsTryAnswer name;
}
