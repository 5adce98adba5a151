use Rattle.std.proofs.Common.{length}
use Rattle.pure_kernel.proofs.table.+listed.Given as goal

abbrev pub decreases-listed : goal.decreases-listed
decreases-listed l = length l.texts.now
