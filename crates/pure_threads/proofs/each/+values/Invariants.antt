use Rattle.std.proofs.Common.{◌+◌, ◌*◌}
use Rattle.std.specs.Prelude.{vec_len}
use Rattle.pure_threads.proofs.each.+values.Given as goal

abbrev pub decreases-work_on_some : goal.decreases-work_on_some
decreases-work_on_some g l = 2 * vec_len l.values

abbrev pub decreases-others : goal.decreases-others
decreases-others g l = 2 * vec_len l.values + 1
