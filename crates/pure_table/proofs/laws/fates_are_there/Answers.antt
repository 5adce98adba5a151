use Rattle.pure_promise_fates.proofs.ThereLaws.{some_fate}
use Rattle.pure_table.proofs.laws.fates_are_there.Goals as goal

pub returns : goal.returns
returns c = some_fate
