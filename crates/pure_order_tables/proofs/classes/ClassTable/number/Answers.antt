use Rattle.pure_order_tables.proofs.ClassTableLaws.{number_none, number_some}
use Rattle.pure_order_tables.proofs.classes.ClassTable.number.Goals as goal

pub returns-in-None : goal.returns-in-None
returns-in-None c = number_none c.self.inside.entries c.self.inside.numbers c.args.self.now c.args.class c.self.view_is c.self.invariant (rw c.class.view_is at c.in-None.ensures)

pub returns-in-Some : goal.returns-in-Some
returns-in-Some c = number_some c.self.inside.entries c.self.inside.numbers c.args.self.now c.args.class c.in-Some.number.now c.self.view_is c.self.invariant (rw c.class.view_is at c.in-Some.ensures)
