use Rattle.pure_unify_nodes.proofs.LongLemmas.{own_answer}
use Rattle.pure_unify_nodes.proofs.long.long_side.Goals as goal

pub returns-then-is_own : goal.returns-then-is_own
returns-then-is_own c = own_answer c.args.t.now c.in_ok-copy.copy c.in_ok-copy.ensures (rw c.if-is_own.true at c.is_own.ensures)
