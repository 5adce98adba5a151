use Rattle.std.proofs.Common.{◌∙◌, sym, length, ap, List}
use Rattle.pure_definitions.specs.Types.Order.{Class}
use Rattle.pure_order_tables.proofs.ClassTableLaws.{long_classes}
use Rattle.pure_order_tables.proofs.classes.ClassTable.count.Goals as goal

pub returns : goal.returns
returns c = c.len.ensures ∙ sym (long_classes c.self.inside.entries) ∙ ap (λ (cs : List Class). length cs) c.self.view_is
