-- What a table of classes is seen as.
use Rattle.std.specs.Prelude.{List, map}
use Rattle.pure_order_tables.specs.declared.classes.ClassEntry.{ClassEntry}
use Rattle.pure_definitions.specs.Types.Order.{Class}

abbrev pub class_of : ClassEntry → Class
class_of e = record { name = e.name; above = e.above.items }

abbrev pub classes_of : List ClassEntry → List Class
classes_of = map class_of
