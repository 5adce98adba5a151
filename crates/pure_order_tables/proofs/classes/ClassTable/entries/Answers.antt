use Rattle.pure_order_tables.proofs.classes.ClassTable.entries.Goals as goal

pub returns-clause-ordered : goal.returns-clause-ordered
returns-clause-ordered c = rw c.self.view_is at c.self.invariant.ordered
