use Rattle.std.proofs.Common.{◌≡◌, ◌+◌, drop}
use Rattle.std.specs.Prelude.{max}
use Rattle.pure_norm.specs.Cells.{total, greatest, cell_size, cell_depth}
use Rattle.pure_norm.proofs.rows.measure_in.Given as goal

abbrev pub invariant-loop-cell : goal.invariant-loop-cell
invariant-loop-cell l = (l.size + total (cell_size l.binders l.above l.places) (drop l.cell-index l.cells) ≡ total (cell_size l.binders l.above l.places) l.cells)
    × (max l.depth (greatest (cell_depth l.binders l.above l.places) (drop l.cell-index l.cells)) ≡ greatest (cell_depth l.binders l.above l.places) l.cells)
