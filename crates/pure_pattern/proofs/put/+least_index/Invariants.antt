use Rattle.std.proofs.Common.{length}
use Rattle.pure_pattern.proofs.put.+least_index.Given as goal

abbrev pub decreases-least_index : goal.decreases-least_index
decreases-least_index l = length l.binds.now
