use Rattle.std.proofs.Common.{length}
use Rattle.pure_promise_rows.proofs.lemmas.+push_from.Given as goal

abbrev pub decreases-push_from : goal.decreases-push_from
decreases-push_from l = length l.letters.now
