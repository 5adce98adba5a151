use Rattle.pure_order_tables.specs.ArityView.{algebra_of}
use Rattle.pure_order_tables.proofs.BelowLaws.{antisymmetric_at}
use Rattle.pure_order_tables.proofs.tables.Tables.classes_are_apart.Goals as goal

pub returns : goal.returns
returns c = antisymmetric_at (algebra_of c.self.inside.classes c.self.inside.arities) c.args.self.now c.self.view_is c.classes_are_apart.ensures
