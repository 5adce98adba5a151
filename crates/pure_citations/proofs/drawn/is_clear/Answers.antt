use Rattle.std.proofs.Common.{sym, true≢false}
use Rattle.pure_citations.proofs.DrawnLaws.{clear-from}
use Rattle.pure_citations.proofs.drawn.is_clear.Goals as goal

pub returns-then-is_first : goal.returns-then-is_first
returns-then-is_first c = λ t. clear-from c.args.held.now c.args.place (c.is_first.ensures c.if-is_first.true) (c.is_empty.ensures t)

pub returns : goal.returns
returns c = λ t. absurd (true≢false (sym t))
