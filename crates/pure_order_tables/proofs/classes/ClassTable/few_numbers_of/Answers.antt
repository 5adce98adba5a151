use Rattle.pure_order_tables.proofs.ClassTableLaws.{no_numbers}
use Rattle.pure_order_tables.proofs.classes.ClassTable.few_numbers_of.Goals as goal

pub returns-then-is_empty : goal.returns-then-is_empty
returns-then-is_empty c = no_numbers c.args.self.now c.args.classes.now c.new.result.items c.is_empty.result c.is_empty.ensures c.if-is_empty.true c.new.ensures.items
