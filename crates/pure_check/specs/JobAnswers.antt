-- What each job means.
use Rattle.std.specs.Prelude.{ℕ, Bool, List, Option}
use Rattle.pure_io.specs.declared.library.File as library
use Rattle.pure_words.specs.declared.job.Job.{Job}
use Rattle.pure_words.specs.declared.job.Job.TheVariants.{Check, Generate, Places, Axioms, Graph, Show, Replay, Find, Try}
use Rattle.pure_check_work.specs.Declare.Notes.{Fork}
use Rattle.pure_check_work.specs.Method.declared.outcome.Outcome.{Outcome}
use Rattle.pure_check_work.specs.TheoryRun.Checked.{Checked}
use Rattle.pure_check_work.specs.TheoryRun.Outline.{Outline}
use Rattle.pure_board.specs.Boards.{Ending}
use Rattle.pure_check.specs.JobMeaning.{JobMeaning}
use Rattle.pure_check.specs.Jobs.Check as check
use Rattle.pure_check.specs.Jobs.Generate as generate
use Rattle.pure_check.specs.Jobs.Places as places
use Rattle.pure_check.specs.Jobs.Axioms as axioms
use Rattle.pure_check.specs.Jobs.Graph as graph
use Rattle.pure_check.specs.Jobs.Show as show
use Rattle.pure_check.specs.Jobs.Replay as replay
use Rattle.pure_check.specs.Jobs.Find as find
use Rattle.pure_check.specs.Jobs.Try as try_lemma
use Rattle.pure_check.specs.Sources.{is_looking, files_in}

-- what the job means
abbrev pub meaning_of : Job → JobMeaning
meaning_of (Check workers fail_fast cancels) = check.meaning workers fail_fast cancels
meaning_of (Generate workers start theories lemmas) = generate.meaning workers start theories lemmas
meaning_of (Places workers) = places.meaning workers
meaning_of (Axioms workers name) = axioms.meaning workers name
meaning_of (Graph workers) = graph.meaning workers
meaning_of (Show name) = show.meaning name
meaning_of (Replay name) = replay.meaning name
meaning_of (Find name) = find.meaning name
meaning_of (Try workers name) = try_lemma.meaning workers name

-- The job's numbers are in range.
abbrev pub IsInRange : Job → Type 0
IsInRange job = (meaning_of job).IsInRange

-- whether the job has the library looked at
abbrev pub is_looking_job : Job → Bool
is_looking_job job = is_looking (meaning_of job).source

-- By the files that the library tells, the job hands out this board or none, and has this text written, which is clean or isn't.
abbrev pub IsAnswer : Job → (told : Option (List library.File)) → (run : Option (Ending Checked Fork Outline Outcome)) → (text : List ℕ) → (clean : Bool) → Type 0
IsAnswer job told run text clean = (meaning_of job).IsAnswer (files_in (meaning_of job).source told) run text clean
