use Rattle.std.proofs.Common.{◌≡◌, take}
use Rattle.pure_order_tables.specs.ClassView.{classes_of}
use Rattle.pure_order_tables.specs.Others.{AreWithOthers}
use Rattle.pure_order_tables.proofs.tables.Tables.with_classes.Given as goal

abbrev pub invariant-loop-i : goal.invariant-loop-i
invariant-loop-i l = record {
  classes : AreWithOthers l.fn.self.classes (classes_of (take l.i l.entries)) l.tables.classes;
  arities : l.tables.arities ≡ l.fn.self.arities;
}
