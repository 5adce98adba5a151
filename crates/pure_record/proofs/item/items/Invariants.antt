use Rattle.pure_record.specs.Left.{left}
use Rattle.pure_record.specs.Seen.{seen_items}
use Rattle.pure_record.proofs.ReadLemmas.{HasItems}
use Rattle.pure_record.proofs.item.items.Given as goal

abbrev pub invariant-loop : goal.invariant-loop
invariant-loop l = HasItems (seen_items l.list.items) (left l.initial.reader) (left l.reader)
