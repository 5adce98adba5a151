use Rattle.std.proofs.Common.{◌⊎◌, take}
use Rattle.pure_text.specs.Lists.{IsIn, Each, AnyOf}
use Rattle.pure_definitions.specs.Types.Order.{Arity}
use Rattle.pure_order_tables.specs.ArityView.{arities_of}
use Rattle.pure_order_tables.specs.Exposed.{IsExposed}
use Rattle.pure_order_tables.proofs.tables.Tables.exposed.Given as goal

abbrev pub invariant-loop-i : goal.invariant-loop-i
invariant-loop-i l = record {
  from : Each (λ e. (a : Arity) × IsIn a (arities_of l.arities) × IsExposed l.self l.other a e) l.exposed.items;
  all : Each (λ a. IsIn a l.other.arities ⊎ AnyOf (IsExposed l.self l.other a) l.exposed.items) (arities_of (take l.i l.arities));
}
