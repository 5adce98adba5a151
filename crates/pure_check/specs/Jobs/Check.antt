-- A check: the theories of the library are checked as the words ask, and the whole table is written.
use Rattle.std.specs.Prelude.{◌≤◌, ℕ, Bool, List}
use Rattle.pure_words.specs.declared.job.CancelWord.{CancelWord}
use Rattle.pure_check_work.specs.Table.Table.{session_text}
use Rattle.pure_check.specs.JobMeaning.{JobMeaning}
use Rattle.pure_check.specs.Meaning.{IsTableAnswer}
use Rattle.pure_check.specs.Sources.{OfLibrary}

-- There is one worker at least.
abbrev pub meaning : (workers : ℕ) → (fail_fast : Bool) → List CancelWord → JobMeaning
meaning workers fail_fast cancels = record {
  IsInRange = 1 ≤ workers;
  source = OfLibrary;
  IsAnswer = IsTableAnswer session_text (record { workers = workers; fail_fast = fail_fast; cancels = cancels });
}
