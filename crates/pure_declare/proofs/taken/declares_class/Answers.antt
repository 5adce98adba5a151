use Rattle.pure_theory.proofs.LookupLaws.{class_declared}
use Rattle.pure_declare.proofs.taken.declares_class.Goals as goal

pub returns : goal.returns
returns c = class_declared c.args.theory.now.declarations c.order-order.result.now c.args.name c.is_declared.result c.order-order.ensures c.is_declared.ensures
