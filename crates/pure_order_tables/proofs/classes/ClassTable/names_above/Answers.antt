use Rattle.pure_order_tables.proofs.ClassTableLaws.{named_both, none_named}
use Rattle.pure_order_tables.proofs.classes.ClassTable.names_above.Goals as goal

pub returns-in_default-clause-has : goal.returns-in_default-clause-has
returns-in_default-clause-has c above has row x = (
  λ m. absurd (rw c.new.ensures.items at m),
  λ w. absurd (none_named c.args.self.now above c.args.numbers.now c.args.row.now c.in_default.ensures has row x w),
)

pub returns-clause-has : goal.returns-clause-has
returns-clause-has c above has row =
    named_both c.args.self.now c.are_in_order.ensures above c.args.numbers.now c.args.row.now c.in-Some.lowest c.numbered-entry.result.now c.in-Some.ensures.1 c.numbered-entry.ensures.named c.numbered-entry.ensures.entry has row c.in_ok-names.names.items c.put_others.new.names.items
    (rw c.as_slice.ensures.value at c.in_ok-names.ensures.items) (rw c.as_slice-2.ensures.value at c.in_ok-put_others.ensures.has)
