use Rattle.std.proofs.Common.{sym, arith}
use Rattle.pure_pattern_terms.proofs.SizeLaws.{low_put}
use Rattle.pure_pattern_terms.proofs.put.+put.Goals as goal

pub returns-then-index_above_of-from : goal.returns-then-index_above_of-from
returns-then-index_above_of-from t c = sym (low_put c.args.from c.args.binds.now c.args.t.now c.requires.from (omega arith))
