use Rattle.std.proofs.Common.{◌≡◌, ◌++◌, drop}
use Rattle.pure_record.specs.Seen.{seen_items}
use Rattle.pure_record_print.specs.Printed.{items_text}
use Rattle.pure_record_print.proofs.item.push_items.Given as goal

-- what is written, and the text of the items that are left
abbrev pub invariant-loop-item : goal.invariant-loop-item
invariant-loop-item l = l.text.items ++ items_text l.names (seen_items (drop l.item-index l.items)) ≡ l.initial.text.items ++ items_text l.names (seen_items l.items)
