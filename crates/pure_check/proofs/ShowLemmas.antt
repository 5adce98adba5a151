-- From what is shown of a session's lemma to the answer of the job.
use Rattle.std.proofs.Common.{ℕ, List, Option, Result, Ok, Err, IfOk}
use Rattle.pure_io.specs.declared.library.File as library
use Rattle.pure_graph.specs.Session.{Session}
use Rattle.pure_graph.specs.declared.fault.LoadFault.{LoadFault}
use Rattle.pure_words.specs.declared.job.Job.TheVariants.{Show}
use Rattle.pure_check_work.specs.SessionLaws.Loaded.{IsLoadedSession}
use Rattle.pure_check.specs.Formed.{IsDone, IsShownSo}
use Rattle.pure_check.specs.Meaning.{IsToldSession}
use Rattle.pure_check.specs.declared.answer.Answer.{Answer}

-- What is shown of the lemma of a session that was loaded of a library is the answer of showing.
pub shown-done : (told : Option (List library.File)) (S : Session) → IsToldSession told S → IsLoadedSession S.names S.theories → (name : List ℕ) (r : Result Answer LoadFault) → IfOk r (IsShownSo S.names S.theories name) → IsDone (Show name) told r
shown-done told S is loaded name (Ok a) said = record { session = S; told = is; loaded = loaded; is_answer = said.0; no_board = said.1 }
shown-done told S is loaded name (Err fault) said = tt
