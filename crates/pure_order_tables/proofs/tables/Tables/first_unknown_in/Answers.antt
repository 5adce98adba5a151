use Rattle.pure_order_tables.proofs.UnknownLaws.{unknown_in}
use Rattle.pure_order_tables.proofs.tables.Tables.first_unknown_in.Goals as goal

pub returns-in-Some : goal.returns-in-Some
returns-in-Some c = unknown_in c.args.self.now.classes c.args.sorts.now c.loop-sort.sort-index c.sort-item.result c.classes.result.now c.in-Some.name c.loop-sort-test.true c.sort-item.is c.classes.ensures.are c.loop-sort.invariant c.in-Some.ensures
