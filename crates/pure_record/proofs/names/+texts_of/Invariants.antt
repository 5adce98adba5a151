use Rattle.std.proofs.Common.{length}
use Rattle.pure_record.proofs.names.+texts_of.Given as goal

abbrev pub decreases-texts_of : goal.decreases-texts_of
decreases-texts_of l = length l.tokens.now
