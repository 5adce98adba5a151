use Rattle.std.proofs.Common.{length}
use Rattle.pure_trials.proofs.shape.+is_shape_from.Given as goal

abbrev pub decreases-is_shape_from : goal.decreases-is_shape_from
decreases-is_shape_from l = length l.shape.now
