use Rattle.std.proofs.Common.{length}
use Rattle.pure_shared_maps.proofs.runs.+grown.Given as goal

abbrev pub decreases-grown : goal.decreases-grown
decreases-grown g l = length l.runs.now
