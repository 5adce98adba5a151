use Rattle.pure_order_tables.specs.ClassView.{classes_of}
use Rattle.pure_order_tables.proofs.BelowLaws.{antisymmetric}
use Rattle.pure_order_tables.proofs.classes.ClassTable.classes_are_apart.Goals as goal

pub returns : goal.returns
returns c = rw c.self.view_is at (antisymmetric (classes_of c.self.inside.entries) c.self.invariant.ordered)
