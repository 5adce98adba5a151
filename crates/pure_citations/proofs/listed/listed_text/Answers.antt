use Rattle.std.proofs.Common.{take}
use Rattle.pure_text.proofs.LoopLaws.{longer_by}
use Rattle.pure_order_tables.specs.Rows.{Holds}
use Rattle.pure_print.specs.RowText.{row_text}
use Rattle.pure_citations.specs.Listed.{IsListed}
use Rattle.pure_citations.proofs.HeadLaws.{text-begins, text-more}
use Rattle.pure_citations.proofs.listed.listed_text.Goals as goal

pub loop-row-init : goal.loop-row-init
loop-row-init c = rw c.new-text.ensures.items (text-begins row_text (IsListed c.args.names.now (Holds c.args.cited.now) (Holds c.args.faults.now) c.args.name.now))

pub loop-row-preserved : goal.loop-row-preserved
loop-row-preserved c =
    rw (longer_by c.args.rows.now c.loop-row.row-index c.row-item.result c.loop-row-test.true c.row-item.is)
    (text-more row_text (IsListed c.args.names.now (Holds c.args.cited.now) (Holds c.args.faults.now) c.args.name.now) (take c.loop-row.row-index c.args.rows.now) c.row-item.result c.loop-row.text.items _ c.loop-row.invariant c.in_ok-put_if_listed.ensures)
