use Rattle.std.proofs.Common.{ap}
use Rattle.pure_record.specs.Seen.{seen_lines}
use Rattle.pure_record.proofs.ReadLemmas.{lines-begun, lines-pushed, lines-end}
use Rattle.pure_record.proofs.line.lines.Goals as goal

pub loop-init : goal.loop-init
loop-init c = lines-begun _ _ (ap seen_lines c.new-list.ensures.items)

pub loop-preserved : goal.loop-preserved
loop-preserved c = lines-pushed _ _ c.in_ok-next.next _ _ _ c.in_ok-push.ensures.items c.loop.invariant c.in_ok-next.ensures

pub returns-then-is_at : goal.returns-then-is_at
returns-then-is_at c = lines-end _ _ _ c.loop.invariant c.in_ok-end.ensures
