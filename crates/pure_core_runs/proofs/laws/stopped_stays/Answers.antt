use Rattle.std.proofs.Common.{ap, ◌∙◌}
use Rattle.pure_machine.specs.State.{opened}
use Rattle.pure_core_runs.specs.Seats.{events_of, state_of}
use Rattle.pure_core_runs.proofs.SplitLaws.{state-append}
use Rattle.pure_core_runs.proofs.ToldLaws.{opened-goes_on}
use Rattle.pure_core_runs.proofs.StayLaws.{stopped-stays, never-stopped, goes_on-stays}
use Rattle.pure_core_runs.proofs.laws.stopped_stays.Goals as goal

pub returns : goal.returns
returns g c = λ o acts more. (
  λ is. ap (λ s. s.stopped) (state-append o acts more) ∙ stopped-stays (state_of o acts) (events_of more) is,
  never-stopped (opened o) (events_of acts),
  goes_on-stays (opened o) (events_of acts) (opened-goes_on _ _ _ o),
)
