use Rattle.pure_order_tables.proofs.ClassTableLaws.{table-one_new}
use Rattle.pure_order_tables.proofs.classes.ClassTable.with.Goals as goal

pub invariant_of-result : goal.invariant_of-result
invariant_of-result c =
    rw (c.in_ok-more.ensures, c.in_ok-entry-2.ensures.ok, c.in_ok-by_name.ensures, c.in_ok-number.ensures.ok, c.class.view_is)
    (table-one_new c.self.inside.entries c.in_ok-entry.entry (record { name = c.args.class; above = c.args.above.now }) c.args.self c.count.result c.self.inside.numbers c.self.view_is c.count.ensures c.self.invariant c.requires.fresh c.requires.known c.in_ok-entry.ensures)
