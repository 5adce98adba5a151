use Rattle.pure_order_tables.proofs.ArityTableLaws.{above_in}
use Rattle.pure_order_tables.proofs.tables.Tables.above.Goals as goal

pub returns-in-Some-clause-are : goal.returns-in-Some-clause-are
returns-in-Some-clause-are c = above_in c.self.inside.classes c.self.inside.arities c.args.self.now c.args.class c.in-Some.names.now c.self.view_is c.in-Some.ensures
