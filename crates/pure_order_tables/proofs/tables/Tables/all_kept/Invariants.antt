use Rattle.std.proofs.Common.{◌≡◌, take}
use Rattle.pure_text.specs.Lists.{Each}
use Rattle.pure_order_tables.specs.ArityView.{arities_of}
use Rattle.pure_order_tables.specs.Kept.{IsKeptEntry}
use Rattle.pure_order_tables.proofs.tables.Tables.all_kept.Given as goal

abbrev pub invariant-loop-i : goal.invariant-loop-i
invariant-loop-i l = record {
  same : arities_of l.all ≡ arities_of (take l.i l.arities);
  kept : Each (IsKeptEntry l.self.classes) l.all;
}
