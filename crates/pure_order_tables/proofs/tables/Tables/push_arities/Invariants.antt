use Rattle.std.proofs.Common.{◌≡◌, take}
use Rattle.pure_order_tables.specs.ArityView.{arities_of}
use Rattle.pure_order_tables.specs.Others.{AreWithOthers}
use Rattle.pure_order_tables.proofs.tables.Tables.push_arities.Given as goal

abbrev pub invariant-loop-i : goal.invariant-loop-i
invariant-loop-i l = record {
  classes : l.self.classes ≡ l.fn.self.classes;
  arities : AreWithOthers l.first.arities (arities_of (take l.i l.arities)) l.self.arities;
}
