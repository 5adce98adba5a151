use Rattle.std.proofs.Common.{refl, sym}
use Rattle.pure_certify.proofs.typ.fault_of_con.Goals as goal

pub returns-then-params-count : goal.returns-then-params-count
returns-then-params-count g c = (c.in-Some.ensures c.args.count).1 (sym c.if-params-count.true)

pub returns-else-params-count : goal.returns-else-params-count
returns-else-params-count g c = (refl, (c.in-Some.params, (c.in-Some.ensures c.in-Some.params).1 refl), λ m. c.if-params-count.false (sym ((c.in-Some.ensures c.args.count).0 m)))
