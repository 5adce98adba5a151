use Rattle.std.proofs.Common.{refl, sym}
use Rattle.pure_theory.proofs.theory.Theory.check_count.Goals as goal

pub returns-in-None-clause-fault : goal.returns-in-None-clause-fault
returns-in-None-clause-fault c = rw (← c.self.view_is) (refl, c.in-None.ensures)

pub returns-then-params-count-clause-ok : goal.returns-then-params-count-clause-ok
returns-then-params-count-clause-ok c = rw (← c.self.view_is) ((c.in-Some.ensures c.args.count).1 (sym c.if-params-count.true))

pub returns-else-params-count-clause-fault : goal.returns-else-params-count-clause-fault
returns-else-params-count-clause-fault c = rw (← c.self.view_is) (refl, (c.in-Some.params, (c.in-Some.ensures c.in-Some.params).1 refl, c.if-params-count.false))
