-- How the theories of a session are to be checked.
use Rattle.std.specs.Prelude.{ℕ, Bool, List}
use Rattle.pure_words.specs.declared.job.CancelWord.{CancelWord}

-- by how many workers, whether the first fault cancels all, and the cancellations
pub record Asked : Type 0 where
  pub workers : ℕ
  pub fail_fast : Bool
  pub cancels : List CancelWord
