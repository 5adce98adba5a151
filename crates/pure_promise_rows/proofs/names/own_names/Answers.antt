use Rattle.std.proofs.Common.{refl, arith}
use Rattle.pure_notation.proofs.SessionLemmas.{session-texts}
use Rattle.pure_promise_rows.proofs.names.own_names.Goals as goal

pub make-requires : goal.make-requires
make-requires c = rw c.in_ok-texts.ensures (session-texts _ refl refl (omega arith))
