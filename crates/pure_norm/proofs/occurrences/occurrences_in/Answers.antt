use Rattle.pure_norm.specs.Cells.{cell_count, cell_deepest}
use Rattle.pure_norm.proofs.RowLemmas.{total-turn, greatest-turn, greatest-room}
use Rattle.pure_norm.proofs.occurrences.occurrences_in.Goals as goal

pub occurrence_at-own-requires : goal.occurrence_at-own-requires
occurrence_at-own-requires c = greatest-room (cell_deepest c.args.binders c.args.above c.args.deep) c.args.cells.now c.loop-cell.cell-index _ c.loop-cell-test.true c.loop-cell.deepest 20000 c.loop-cell.invariant.1 c.requires.low

pub loop-cell-preserved : goal.loop-cell-preserved
loop-cell-preserved c = (
  rw c.occurrence_at-own.ensures.count (total-turn (cell_count c.args.binders) c.args.cells.now c.loop-cell.cell-index _ c.loop-cell-test.true c.loop-cell.count c.loop-cell.invariant.0),
  rw (c.max-deepest.ensures, c.occurrence_at-own.ensures.deepest) (greatest-turn (cell_deepest c.args.binders c.args.above c.args.deep) c.args.cells.now c.loop-cell.cell-index _ c.loop-cell-test.true c.loop-cell.deepest c.loop-cell.invariant.1),
)
