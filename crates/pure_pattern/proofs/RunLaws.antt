-- Runs, from their first state on.
use Rattle.std.proofs.Common.{◌≡◌, ℕ, ◌+◌, ◌<◌, sym, subst}
use Rattle.pure_pattern_laws.specs.Steps.{State, IsWithinState, Follows, Runs, max_steps}
use Rattle.pure_pattern_laws.specs.Laws.{IsPatternState}
use Rattle.pure_pattern_laws.proofs.KeepLaws.{steps_keep_patterns}
use Rattle.pure_pattern.specs.Reached.{IsReached}

pub begins : (maxidx : ℕ) (first s : State) → s ≡ first → IsPatternState first → IsWithinState first → IsReached maxidx 0 first s
begins maxidx first s e patterns within = subst (IsReached maxidx 0 first) (sym e) (record { patterns = patterns; within = within; back = λ o run. run })

pub goes-on : (maxidx n : ℕ) (first s m : State) → IsReached maxidx n first s → n < max_steps → Follows (maxidx + (n + 1)) s m → IsWithinState m → IsReached maxidx (n + 1) first m
goes-on maxidx n first s m h less follows within = record {
  patterns = steps_keep_patterns (maxidx + (n + 1)) s m h.patterns follows;
  within = within;
  back = λ o run. h.back o (Runs.next h.within less follows run);
}
