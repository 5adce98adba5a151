-- What a table of classes and arities is seen as.
use Rattle.std.specs.Prelude.{List, map}
use Rattle.std.specs.Arc.{arc_value}
use Rattle.pure_order_tables.specs.declared.tables.ArityEntry.{ArityEntry}
use Rattle.pure_definitions.specs.Types.Order.{Class, Arity, Algebra}

abbrev pub arity_of : ArityEntry → Arity
arity_of e = record { con = e.con; domains = (arc_value e.domains).items; class = e.class }

abbrev pub arities_of : List ArityEntry → List Arity
arities_of = map arity_of

abbrev pub algebra_of : List Class → List ArityEntry → Algebra
algebra_of cs es = record { classes = cs; arities = arities_of es }
