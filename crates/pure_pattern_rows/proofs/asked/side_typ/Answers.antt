use Rattle.std.proofs.Common.{arith}
use Rattle.pure_pattern_rows.proofs.SideLaws.{low-indexes}
use Rattle.pure_pattern_rows.proofs.asked.side_typ.Goals as goal

pub returns : goal.returns
returns c = record { typed = c.in-Some.ensures; long = c.is_own_long_form.ensures c.if-not-is_own_long_form.false; low = low-indexes c.args.t.now (omega arith) }
