-- The histories that a board may have.
use Rattle.std.specs.Prelude.{◌≡◌, ℕ, List, Bool}
use Rattle.pure_machine.specs.Policy.{Opening}
use Rattle.pure_machine.specs.State.{Event}
use Rattle.pure_core_runs.specs.Seats.{IsNumberedRun}

-- The history may be that of a board for the session: the opening has the session's shape, and the events with the numbers of their seats are a numbered legal run of it.
pub record IsLawful {W G C O : Type 0} (shape : W → List (List ℕ)) (forks : W → ℕ → ℕ → ℕ → G → Type 0) (closes : W → ℕ → ℕ → C → Type 0) (may : W → G → O → Type 0) (is_fault : W → O → Bool) (session : W) (o : Opening) (log : List (ℕ × Event G C O)) : Type 0 where
  pub shaped : o.shape ≡ shape session
  pub run : IsNumberedRun (forks session) (closes session) (may session) (is_fault session) o log
