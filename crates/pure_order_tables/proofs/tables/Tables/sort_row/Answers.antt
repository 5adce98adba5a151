use Rattle.pure_order_tables.proofs.KeptLaws.{row_all, row_held, row_put, row_start}
use Rattle.pure_order_tables.proofs.tables.Tables.sort_row.Goals as goal
use Rattle.pure_order_tables.proofs.tables.Tables.sort_row.Goals.{then-not-holds, else-not-holds}

pub loop-class-init : goal.loop-class-init
loop-class-init c = row_start c.args.self.now c.args.classes.now c.in_ok-row.row.items (rw c.class_count.ensures at c.in_ok-row.ensures.count) c.in_ok-row.ensures.none

pub loop-class-preserved : goal.loop-class-preserved
loop-class-preserved c = elim c.if-not-holds.branch [
  | then-not-holds w ↦ rw w.row-is (row_put c.args.self.now c.args.classes.now c.loop-class.row.items w.put_row.new.row.items w.row_of.result.now c.loop-class.class-index c.class-item.result c.in-Some.number c.loop-class-test.true c.class-item.is c.in-Some.ensures w.row_of.ensures w.put_row.ensures.held w.put_row.ensures.count c.loop-class.invariant)
  | else-not-holds w ↦ rw w.row-is (row_held c.args.self.now c.args.classes.now c.loop-class.row.items c.loop-class.class-index c.class-item.result c.in-Some.number c.loop-class-test.true c.class-item.is c.in-Some.ensures (rw c.as_slice.ensures.value at (c.holds.ensures.0 w.if-not-holds.false)) c.loop-class.invariant)
]

pub returns : goal.returns
returns c = row_all c.args.self.now c.args.classes.now c.loop-class.row.items c.loop-class.class-index c.loop-class-test.false c.loop-class.invariant
