use Rattle.std.proofs.Common.{drop}
use Rattle.pure_table.proofs.FillingLaws.{fills-none, fills-theory, fills-all}
use Rattle.pure_table.proofs.filling.fill_all.Goals as goal

pub loop-each-init : goal.loop-each-init
loop-each-init g c rows are = fills-none (g.T.TakesRows.holds c.args.table.now) rows

pub loop-each-preserved : goal.loop-each-preserved
loop-each-preserved g c rows are =
    fills-theory (g.T.TakesRows.holds c.args.table.now) (g.T.TakesRows.holds c.loop-each.table) (g.T.TakesRows.holds c.fill_theory.new.table) c.args.closed.now c.loop-each.each-index c.each-item.result c.loop-each-test.true
    c.each-item.is rows (drop c.loop-each.next rows) (drop c.in_ok-next.next rows) (c.loop-each.invariant rows are) ((rw c.deref-theory.ensures at c.in_ok-next.ensures) rows are)

pub returns : goal.returns
returns g c rows are =
    (drop c.loop-each.next rows, fills-all (g.T.TakesRows.holds c.args.table.now) (g.T.TakesRows.holds c.loop-each.table) c.args.closed.now c.loop-each.each-index c.loop-each-test.false rows (drop c.loop-each.next rows) (c.loop-each.invariant rows are))
