use Rattle.pure_pairs.proofs.ScopeLaws.{own_body, other_body}
use Rattle.pure_pairs.proofs.scope.body_of.Goals as goal

pub returns-then-eq : goal.returns-then-eq
returns-then-eq c = rw (← c.t.view_is, c.in-Abs.is) (own_body c.in-Abs.own c.args.typ.now c.in-Abs.body.value c.deref.result.now c.eq.result c.eq.ensures c.if-eq.true c.deref.ensures)

pub returns-else-eq : goal.returns-else-eq
returns-else-eq c = rw (← c.t.view_is, c.in-Abs.is) (λ b e. other_body c.in-Abs.own c.args.typ.now c.in-Abs.body.value b c.eq.result c.eq.ensures c.if-eq.false e)
