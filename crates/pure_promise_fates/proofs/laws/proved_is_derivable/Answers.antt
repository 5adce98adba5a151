use Rattle.pure_promise_fates.proofs.ProvedLaws.{proved_is_derivable as derivable}
use Rattle.pure_promise_fates.proofs.laws.proved_is_derivable.Goals as goal

pub returns : goal.returns
returns c = derivable
