use Rattle.pure_order_tables.specs.ArityView.{algebra_of}
use Rattle.pure_order_tables.proofs.ArityTableLaws.{no_slot, slot_of}
use Rattle.pure_order_tables.proofs.tables.Tables.place.Goals as goal

pub returns-in-None : goal.returns-in-None
returns-in-None c = no_slot (algebra_of c.self.inside.classes c.self.inside.arities) c.args.self.now c.self.inside.slots c.args.con c.self.view_is c.self.invariant.arities (rw c.con.view_is at c.in-None.ensures) c.args.class

pub place_in-requires : goal.place_in-requires
place_in-requires c = (slot_of (algebra_of c.self.inside.classes c.self.inside.arities) c.args.self.now c.self.inside.slots c.args.con c.in-Some.slot.now c.self.view_is c.self.invariant.arities (rw c.con.view_is at c.in-Some.ensures)).first

pub returns-in-Some : goal.returns-in-Some
returns-in-Some c = c.place_in.ensures c.args.con (slot_of (algebra_of c.self.inside.classes c.self.inside.arities) c.args.self.now c.self.inside.slots c.args.con c.in-Some.slot.now c.self.view_is c.self.invariant.arities (rw c.con.view_is at c.in-Some.ensures))
