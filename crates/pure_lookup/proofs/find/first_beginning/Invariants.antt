use Rattle.std.proofs.Common.{◌-◌}
use Rattle.pure_lookup.proofs.find.first_beginning.Given as goal

abbrev pub decreases-loop-low : goal.decreases-loop-low
decreases-loop-low l = l.high - l.low
