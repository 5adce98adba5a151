use Rattle.std.proofs.Common.{sym, arith}
use Rattle.pure_pattern.proofs.GivenLaws.{low-none}
use Rattle.pure_pattern.proofs.given.+stands_in.Goals as goal

pub returns-then-index_above_of-from : goal.returns-then-index_above_of-from
returns-then-index_above_of-from t c = sym (low-none c.args.name c.args.index c.args.typ.now c.args.t.now (omega arith))
