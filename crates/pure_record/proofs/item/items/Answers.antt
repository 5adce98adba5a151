use Rattle.std.proofs.Common.{ap}
use Rattle.pure_record.specs.Seen.{seen_items}
use Rattle.pure_record.proofs.ReadLemmas.{items-begun, items-pushed, items-end}
use Rattle.pure_record.proofs.item.items.Goals as goal

pub loop-init : goal.loop-init
loop-init c = items-begun _ _ (ap seen_items c.new-list.ensures.items)

pub loop-preserved : goal.loop-preserved
loop-preserved c = items-pushed _ _ c.in_ok-next.next _ _ _ c.in_ok-push.ensures.items c.loop.invariant c.in_ok-next.ensures

pub returns-then-not-is_at_item : goal.returns-then-not-is_at_item
returns-then-not-is_at_item c = items-end _ _ _ c.loop.invariant
