use Rattle.std.proofs.Common.{◌≡◌, take}
use Rattle.pure_text.specs.Lists.{AnyOf}
use Rattle.pure_order_tables.proofs.tables.Tables.arity.Given as goal

abbrev pub invariant-loop-i : goal.invariant-loop-i
invariant-loop-i l = ¬ AnyOf (λ e. (e.con ≡ l.con) × (e.class ≡ l.class)) (take l.i l.arities)
