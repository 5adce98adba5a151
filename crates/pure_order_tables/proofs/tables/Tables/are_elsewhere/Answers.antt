use Rattle.pure_order_tables.proofs.CoregularLaws.{declared_read}
use Rattle.pure_order_tables.proofs.tables.Tables.are_elsewhere.Goals as goal

pub number_of-requires : goal.number_of-requires
number_of-requires c = declared_read c.args.self.now.classes c.arities-arities.result.now c.args.self.now.arities c.loop-i.i c.get-arity.result.now (rw c.len-i-end.ensures at c.loop-i-test.true) c.get-arity.ensures c.arities-arities.ensures.are c.arities-arities.ensures.known
