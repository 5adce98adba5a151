use Rattle.std.proofs.Common.{◌≡◌, drop}
use Rattle.pure_citations.specs.Listed.{own_row}
use Rattle.pure_citations.proofs.listed.own_row.Given as goal

abbrev pub invariant-loop-row : goal.invariant-loop-row
invariant-loop-row l = own_row l.name (drop l.row-index l.rows) ≡ own_row l.name l.rows
