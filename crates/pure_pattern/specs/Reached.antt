-- States that steps come to.
use Rattle.std.specs.Prelude.{ℕ}
use Rattle.pure_pattern_laws.specs.Steps.{State, Outcome, Runs, IsWithinState}
use Rattle.pure_pattern_laws.specs.Laws.{IsPatternState}

-- After n steps the state is this one: what comes of it comes of the first.
pub record IsReached (maxidx n : ℕ) (first s : State) : Type 0 where
  pub patterns : IsPatternState s
  pub within : IsWithinState s
  pub back : (o : Outcome) → Runs maxidx n s o → Runs maxidx 0 first o
