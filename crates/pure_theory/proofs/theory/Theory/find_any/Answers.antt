use Rattle.std.proofs.Common.{refl}
use Rattle.pure_theory.proofs.LookupLaws.{fact_is_declared}
use Rattle.pure_theory.proofs.theory.Theory.find_any.Goals as goal

pub returns-in-None : goal.returns-in-None
returns-in-None c = λ n h. fact_is_declared c.args.names.now c.args.self.now c.args.written.now c.in-Some.name c.in-Some.ensures c.in-None.ensures

pub returns-in-Some-fact : goal.returns-in-Some-fact
returns-in-Some-fact c = (c.in-Some.ensures, (c.in-Some-fact.ensures c.in-Some-fact.statement.now).1 refl)
