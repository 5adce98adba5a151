use Rattle.std.proofs.Common.{drop}
use Rattle.pure_table.proofs.FillingLaws.{fills-none, fills-place, fills-places}
use Rattle.pure_table.proofs.filling.fill.Goals as goal

pub loop-place-init : goal.loop-place-init
loop-place-init g c rows are = fills-none (g.T.TakesRows.holds c.args.table.now) (drop c.args.next rows)

pub loop-place-preserved : goal.loop-place-preserved
loop-place-preserved g c rows are =
    fills-place (g.T.TakesRows.holds c.args.table.now) (g.T.TakesRows.holds c.loop-place.table) (g.T.TakesRows.holds c.fill_one.new.table) c.args.places.now c.loop-place.place-index c.place-item.result c.loop-place-test.true
    c.place-item.is (drop c.args.next rows) (drop c.loop-place.next rows) (drop c.in_ok-next.next rows) (c.loop-place.invariant rows are) (c.in_ok-next.ensures rows are)

pub returns : goal.returns
returns g c rows are =
    fills-places (g.T.TakesRows.holds c.args.table.now) (g.T.TakesRows.holds c.loop-place.table) c.args.places.now c.loop-place.place-index c.loop-place-test.false (drop c.args.next rows) (drop c.loop-place.next rows)
    (c.loop-place.invariant rows are)
