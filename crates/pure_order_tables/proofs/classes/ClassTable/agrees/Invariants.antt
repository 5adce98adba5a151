use Rattle.std.proofs.Common.{take}
use Rattle.pure_text.specs.Lists.{Each}
use Rattle.pure_order_tables.specs.ClassView.{classes_of}
use Rattle.pure_order_tables.specs.Classes.{IsSameIfNamed}
use Rattle.pure_order_tables.proofs.classes.ClassTable.agrees.Given as goal

abbrev pub invariant-loop-i : goal.invariant-loop-i
invariant-loop-i l = Each (λ c. Each (IsSameIfNamed c) l.other) (classes_of (take l.i l.entries))
