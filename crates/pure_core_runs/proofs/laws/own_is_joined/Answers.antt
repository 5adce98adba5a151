use Rattle.pure_core_runs.proofs.SplitLaws.{own-append}
use Rattle.pure_core_runs.proofs.laws.own_is_joined.Goals as goal

pub returns : goal.returns
returns g c = own-append
