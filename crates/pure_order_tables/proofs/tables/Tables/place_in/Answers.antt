use Rattle.pure_order_tables.proofs.ArityTableLaws.{first_apart, first_below, later_place}
use Rattle.pure_text.proofs.AnswerLaws.{test_fails}
use Rattle.pure_order_tables.proofs.tables.Tables.place_in.Goals as goal

pub returns-in-Some : goal.returns-in-Some
returns-in-Some c k s = later_place c.args.self.now k c.args.class c.args.slot.now c.in-Some.place.now (rw c.class.view_is at c.in-Some.ensures) s

pub returns-then-below : goal.returns-then-below
returns-then-below c k s = first_below c.args.self.now c.arities.result.now c.get-first.result.now k c.args.class c.args.slot.now c.arities.ensures.are c.get-first.ensures (c.below.ensures.0 c.if-below.true) (rw c.class.view_is at c.in_default.ensures) s

pub returns : goal.returns
returns c k s = first_apart c.args.self.now c.arities.result.now c.get-first.result.now k c.args.class c.args.slot.now c.arities.ensures.are c.get-first.ensures (test_fails _ c.below.result c.below.ensures c.if-below.false) (rw c.class.view_is at c.in_default.ensures) s
