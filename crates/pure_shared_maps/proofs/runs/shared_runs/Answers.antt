use Rattle.pure_shared_maps.proofs.RunLaws.{runs_same}
use Rattle.pure_shared_maps.proofs.runs.shared_runs.Goals as goal

pub returns : goal.returns
returns g c = runs_same _ _ c.in_ok-copies.ensures.items
