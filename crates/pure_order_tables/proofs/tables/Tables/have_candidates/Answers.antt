use Rattle.pure_order_tables.specs.ArityView.{algebra_of}
use Rattle.pure_order_tables.proofs.ArityTableLaws.{some_greatest}
use Rattle.pure_order_tables.proofs.tables.Tables.have_candidates.Goals as goal

pub returns : goal.returns
returns c = some_greatest (algebra_of c.self.inside.classes c.self.inside.arities) c.args.self.now c.self.inside.slots c.self.view_is c.order_is_decided.ensures c.self.invariant.arities
