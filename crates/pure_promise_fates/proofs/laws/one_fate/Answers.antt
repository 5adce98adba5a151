use Rattle.pure_promise_fates.proofs.FateLaws.{one_fate as once}
use Rattle.pure_promise_fates.proofs.laws.one_fate.Goals as goal

pub returns : goal.returns
returns c = once
