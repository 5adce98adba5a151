use Rattle.std.proofs.Common.{refl}
use Rattle.pure_theory.proofs.FactLookupLaws.{own_is_meant}
use Rattle.pure_theory.proofs.theory.Theory.find_own.Goals as goal

pub returns-in-Some-fact : goal.returns-in-Some-fact
returns-in-Some-fact c =
    let stated = (c.in-Some-fact.ensures c.in-Some-fact.statement.now).1 refl in
    (own_is_meant c.args.names.now c.args.self.now c.args.written.now c.requires c.in_default.ensures c.in-Some-own_name.name c.in-Some-fact.statement.now c.in-Some-own_name.ensures stated, stated)
