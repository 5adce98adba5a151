use Rattle.pure_order_tables.specs.ArityView.{algebra_of}
use Rattle.pure_order_tables.proofs.ArityTableLaws.{no_slot}
use Rattle.pure_order_tables.proofs.tables.Tables.is_bare.Goals as goal

pub returns-in-None : goal.returns-in-None
returns-in-None c = no_slot (algebra_of c.self.inside.classes c.self.inside.arities) c.args.self.now c.self.inside.slots c.args.con c.self.view_is c.self.invariant.arities (rw c.con.view_is at c.in-None.ensures)
