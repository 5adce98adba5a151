use Rattle.std.proofs.Common.{take}
use Rattle.pure_text.specs.Lists.{Each}
use Rattle.pure_order_tables.specs.Classes.{IsDeclared}
use Rattle.pure_order_tables.proofs.tables.Tables.first_unknown_in.Given as goal

abbrev pub invariant-loop-sort : goal.invariant-loop-sort
invariant-loop-sort l = Each (Each (IsDeclared l.self.classes)) (take l.sort-index l.sorts)
