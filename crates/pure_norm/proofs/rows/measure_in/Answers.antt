use Rattle.pure_norm.specs.Cells.{cell_size, cell_depth}
use Rattle.pure_norm.proofs.RowLemmas.{total-turn, greatest-turn, greatest-room}
use Rattle.pure_norm.proofs.rows.measure_in.Goals as goal

pub measure_of_cell-own-requires : goal.measure_of_cell-own-requires
measure_of_cell-own-requires c = greatest-room (cell_depth c.args.binders c.args.above c.args.places.now) c.args.cells.now c.loop-cell.cell-index _ c.loop-cell-test.true c.loop-cell.depth 10000 c.loop-cell.invariant.1 c.requires.shallow

pub loop-cell-preserved : goal.loop-cell-preserved
loop-cell-preserved c = (
  rw c.measure_of_cell-own.ensures.size (total-turn (cell_size c.args.binders c.args.above c.args.places.now) c.args.cells.now c.loop-cell.cell-index _ c.loop-cell-test.true c.loop-cell.size c.loop-cell.invariant.0),
  rw (c.max-depth.ensures, c.measure_of_cell-own.ensures.depth) (greatest-turn (cell_depth c.args.binders c.args.above c.args.places.now) c.args.cells.now c.loop-cell.cell-index _ c.loop-cell-test.true c.loop-cell.depth c.loop-cell.invariant.1),
)
