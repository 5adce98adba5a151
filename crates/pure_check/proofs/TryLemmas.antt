-- From what is said of a session's lemma to the answer of the job.
use Rattle.std.proofs.Common.{ℕ, List, Option, Result, Ok, Err, IfOk}
use Rattle.pure_io.specs.declared.library.File as library
use Rattle.pure_graph.specs.Session.{Session}
use Rattle.pure_graph.specs.declared.fault.LoadFault.{LoadFault}
use Rattle.pure_words.specs.declared.job.Job.TheVariants.{Try}
use Rattle.pure_check_work.specs.SessionLaws.Loaded.{IsLoadedSession}
use Rattle.pure_check.specs.Formed.{IsDone, IsLineOf}
use Rattle.pure_check.specs.Meaning.{IsToldSession}
use Rattle.pure_check.specs.declared.answer.Answer.{Answer}

-- What is said of the lemma of a session that was loaded of a library is the answer of trying.
pub line-done : (told : Option (List library.File)) (S : Session) → IsToldSession told S → IsLoadedSession S.names S.theories → (workers : ℕ) (name : List ℕ) (r : Result Answer LoadFault) → IfOk r (λ a. IsLineOf S.names S.theories name a)
    → IsDone (Try workers name) told r
line-done told S is loaded workers name (Ok a) said =
    record { session = S; told = is; loaded = loaded; answer = said.answer; is_answer = said.is_answer; no_board = said.no_board; text_is = said.text_is; clean_is = said.clean_is }
line-done told S is loaded workers name (Err fault) said = tt
