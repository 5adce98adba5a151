use Rattle.std.proofs.Common.{refl}
use Rattle.pure_certify.proofs.ConstLemmas.{const-answer}
use Rattle.pure_certify.proofs.constant.fault_of_const.Goals as goal

pub returns-in-None : goal.returns-in-None
returns-in-None g c = (refl, c.in-None.ensures)

pub returns-in-Some : goal.returns-in-Some
returns-in-Some g c =
    const-answer (g.D.Tables.declarations c.args.tables.now) c.order.result.now c.args.name c.in-Some.declared.now c.args.typ.now c.fault_of_instance.result c.order.ensures c.in-Some.ensures c.fault_of_instance.ensures
