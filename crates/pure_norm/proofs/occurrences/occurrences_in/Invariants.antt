use Rattle.std.proofs.Common.{◌≡◌, ◌+◌, drop}
use Rattle.std.specs.Prelude.{max}
use Rattle.pure_norm.specs.Cells.{total, greatest, cell_count, cell_deepest}
use Rattle.pure_norm.proofs.occurrences.occurrences_in.Given as goal

abbrev pub invariant-loop-cell : goal.invariant-loop-cell
invariant-loop-cell l = (l.count + total (cell_count l.binders) (drop l.cell-index l.cells) ≡ total (cell_count l.binders) l.cells)
    × (max l.deepest (greatest (cell_deepest l.binders l.above l.deep) (drop l.cell-index l.cells)) ≡ greatest (cell_deepest l.binders l.above l.deep) l.cells)
