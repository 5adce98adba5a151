use Rattle.pure_citations.proofs.IndexLaws.{from-end}
use Rattle.pure_citations.proofs.index.put_number.Goals as goal

pub returns-then-holds : goal.returns-then-holds
returns-then-holds c = from-end c.args.codes.now c.args.number c.args.named.now _ _ (c.holds.ensures.0 c.if-holds.true) (rw c.in_ok-code.ensures at c.in_ok-put_from.ensures)
