use Rattle.pure_order_tables.proofs.classes.ClassTable.are_in_order.Goals as goal

pub returns : goal.returns
returns c = rw c.self.view_is at c.self.invariant.ordered
