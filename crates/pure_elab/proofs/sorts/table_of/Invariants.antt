use Rattle.std.proofs.Common.{take}
use Rattle.pure_text.specs.Lists.{Each}
use Rattle.pure_elab.specs.Table.{AreEntries, HasVariable}
use Rattle.pure_elab.proofs.sorts.table_of.Given as goal

-- the entries are right, and each variable so far has one
abbrev pub invariant-loop-entry : goal.invariant-loop-entry
invariant-loop-entry l = AreEntries l.order l.written l.table.items × Each (λ w. HasVariable l.table.items w.variable) (take l.entry-index l.written)
