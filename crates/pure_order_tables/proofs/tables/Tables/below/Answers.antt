use Rattle.pure_order_tables.specs.ArityView.{algebra_of}
use Rattle.pure_order_tables.proofs.BelowLaws.{below-at}
use Rattle.pure_order_tables.proofs.tables.Tables.below.Goals as goal

pub returns : goal.returns
returns c = below-at (algebra_of c.self.inside.classes c.self.inside.arities) c.args.self.now c.below.result c.args.first c.args.second c.self.view_is c.below.ensures
