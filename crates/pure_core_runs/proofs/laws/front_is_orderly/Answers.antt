use Rattle.pure_core_runs.proofs.SeatLaws.{orderly-front}
use Rattle.pure_core_runs.proofs.laws.front_is_orderly.Goals as goal

pub returns : goal.returns
returns g c = orderly-front
