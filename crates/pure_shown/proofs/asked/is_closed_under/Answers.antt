use Rattle.std.proofs.Common.{◌≤◌, arith}
use Rattle.std.proofs.lemmas.Bool.{leb-true}
use Rattle.pure_definitions.proofs.MeasureLemmas.{closed_exactly}
use Rattle.pure_shown.proofs.asked.is_closed_under.Goals as goal

pub returns : goal.returns
returns c = λ h. (let low : c.loose_above_of.result ≤ c.from.result = leb-true c.loose_above_of.result c.from.result h in (closed_exactly c.args.binders c.args.t.now).1 (omega arith))
