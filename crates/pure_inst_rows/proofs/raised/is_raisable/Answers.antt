use Rattle.std.proofs.Common.{◌≤◌, arith}
use Rattle.std.proofs.lemmas.Bool.{leb-true}
use Rattle.pure_inst_rows.proofs.RaisableLaws.{low_term}
use Rattle.pure_inst_rows.proofs.raised.is_raisable.Goals as goal

pub returns : goal.returns
returns c = λ h. (let low = leb-true _ _ h in low_term c.args.by c.args.t.now (omega arith))
