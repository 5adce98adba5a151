use Rattle.pure_logic.specs.Laws.Maps.{instantiated}
use Rattle.pure_resolve.proofs.SettleLaws.{behind_long, behind_fault, stopped_both}
use Rattle.pure_resolve.proofs.settle.both_settled.Goals as goal

pub returns-in-Ok-clause-long : goal.returns-in-Ok-clause-long
returns-in-Ok-clause-long g c = behind_long (instantiated c.args.typs.now c.args.terms.now) c.args.premises.items c.in-Ok.front.items c.args.others.items c.others_settled.result c.in-Ok.ensures.long c.others_settled.ensures.long

pub returns-in-Ok-clause-fault : goal.returns-in-Ok-clause-fault
returns-in-Ok-clause-fault g c = behind_fault (instantiated c.args.typs.now c.args.terms.now) c.args.premises.items c.in-Ok.front.items c.args.others.items c.others_settled.result c.in-Ok.ensures.long c.others_settled.ensures.fault

pub returns-in-Err-clause-fault : goal.returns-in-Err-clause-fault
returns-in-Err-clause-fault g c = stopped_both (instantiated c.args.typs.now c.args.terms.now) c.args.premises.items c.args.others.items c.in-Err.fault c.in-Err.ensures.fault
