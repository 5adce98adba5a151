use Rattle.pure_promise.proofs.FateLaws.{proved_row}
use Rattle.pure_promise.proofs.laws.proved_row.Goals as goal

pub returns : goal.returns
returns c = proved_row
