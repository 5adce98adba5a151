use Rattle.std.proofs.Common.{◌∙◌, sym}
use Rattle.pure_citations.proofs.ListedLaws.{own-behind, own-here}
use Rattle.pure_citations.proofs.listed.own_row.Goals as goal

pub returns-then-is_own : goal.returns-then-is_own
returns-then-is_own c = own-here c.args.name.now c.args.rows.now c.loop-row.row-index c.row-item.result c.loop-row-test.true c.row-item.is (sym c.is_own.ensures ∙ c.if-is_own.true) c.loop-row.invariant

pub loop-row-preserved : goal.loop-row-preserved
loop-row-preserved c = own-behind c.args.name.now c.args.rows.now c.loop-row.row-index c.row-item.result c.loop-row-test.true c.row-item.is (sym c.is_own.ensures ∙ c.if-is_own.false) c.loop-row.invariant
