use Rattle.std.proofs.Common.{vec_len}
use Rattle.pure_sorts_rows.proofs.unified.paired.Given as goal

abbrev pub decreases-loop-right : goal.decreases-loop-right
decreases-loop-right l = vec_len l.typs
