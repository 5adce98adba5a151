use Rattle.std.proofs.Common.{take}
use Rattle.pure_order_tables.specs.Rows.{Holds}
use Rattle.pure_print.specs.RowText.{row_text}
use Rattle.pure_citations.specs.Heads.{IsTextOf}
use Rattle.pure_citations.specs.Listed.{IsListed}
use Rattle.pure_citations.proofs.listed.listed_text.Given as goal

abbrev pub invariant-loop-row : goal.invariant-loop-row
invariant-loop-row l = IsTextOf row_text (IsListed l.names (Holds l.cited) (Holds l.faults) l.name) (take l.row-index l.rows) l.text.items
