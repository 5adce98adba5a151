use Rattle.pure_order_tables.specs.ArityView.{algebra_of}
use Rattle.pure_order_tables.proofs.BelowLaws.{decided_at}
use Rattle.pure_order_tables.proofs.tables.Tables.order_is_decided.Goals as goal

pub returns : goal.returns
returns c = decided_at (algebra_of c.self.inside.classes c.self.inside.arities) c.args.self.now c.self.view_is c.order_is_decided.ensures
