use Rattle.std.proofs.Common.{refl}
use Rattle.pure_order_tables.specs.ArityView.{algebra_of, arity_of}
use Rattle.pure_order_tables.proofs.ArityTableLaws.{first_slot, later_slot, no_slot, slot_of}
use Rattle.pure_order_tables.proofs.tables.Tables.slot_with.Goals as goal

pub returns-in_default : goal.returns-in_default
returns-in_default c = first_slot c.args.self.now (arity_of c.args.arity.now) _ (no_slot (algebra_of c.self.inside.classes c.self.inside.arities) c.args.self.now c.self.inside.slots c.args.arity.now.con c.self.view_is c.self.invariant.arities (rw c.con.view_is at c.in_default.ensures)) c.arity_count-last.ensures c.empty-later.ensures

pub returns : goal.returns
returns c = later_slot c.args.self.now c.order_is_decided.ensures (arity_of c.args.arity.now) c.args.greater.now c.requires c.in-Some.slot.now (record { first = c.in-Some.slot.now.first; later = c.put_all.new.self }) c.arity_count-last.result c.arity_count-last.ensures refl
    (rw (c.in_ok-later.ensures, c.in_ok-entries.ensures) at c.in_ok-put_all.ensures.ok)
    (slot_of (algebra_of c.self.inside.classes c.self.inside.arities) c.args.self.now c.self.inside.slots c.args.arity.now.con c.in-Some.slot.now c.self.view_is c.self.invariant.arities (rw c.con.view_is at c.in-Some.ensures))
