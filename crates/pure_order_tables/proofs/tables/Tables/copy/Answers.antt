use Rattle.pure_order_tables.proofs.tables.Tables.copy.Goals as goal

pub invariant_of-result : goal.invariant_of-result
invariant_of-result c = rw (c.in_ok-classes.ensures, c.in_ok-arities.ensures, c.in_ok-slots.ensures) c.self.invariant

pub returns : goal.returns
returns c = rw (c.in_ok-classes.ensures, c.in_ok-arities.ensures) c.self.view_is
