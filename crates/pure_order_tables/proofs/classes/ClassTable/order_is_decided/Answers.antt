use Rattle.pure_order_tables.proofs.ClassTableLaws.{decided}
use Rattle.pure_order_tables.proofs.classes.ClassTable.order_is_decided.Goals as goal

pub returns : goal.returns
returns c = rw c.self.view_is at (decided c.self.inside.entries c.self.inside.numbers c.self.invariant)
