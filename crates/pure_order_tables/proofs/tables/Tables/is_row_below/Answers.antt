use Rattle.std.proofs.Common.{take_all}
use Rattle.pure_text.proofs.AnswerLaws.{no_as, yes_as, test_fails}
use Rattle.pure_text.proofs.ListLaws.{each_read}
use Rattle.pure_text.proofs.LoopLaws.{each_turn}
use Rattle.pure_definitions.specs.Types.Order.{HasClassBelow}
use Rattle.pure_order_tables.proofs.tables.Tables.is_row_below.Goals as goal

pub returns-then-not-has_below_in : goal.returns-then-not-has_below_in
returns-then-not-has_below_in c s h = rw (← c.classes-class-items.ensures.are) (no_as _ (λ all. test_fails _ c.has_below_in.result (c.has_below_in.ensures s h) c.if-not-has_below_in.true (each_read (HasClassBelow c.args.self.now s) c.classes-class-items.result.now c.loop-class.class-index c.class-item.result c.loop-class-test.true c.class-item.is all)))

pub loop-class-preserved : goal.loop-class-preserved
loop-class-preserved c s h = each_turn (HasClassBelow c.args.self.now s) c.classes-class-items.result.now c.loop-class.class-index c.class-item.result c.loop-class-test.true c.class-item.is (c.loop-class.invariant s h) ((c.has_below_in.ensures s h).0 c.if-not-has_below_in.false)

pub returns : goal.returns
returns c s h = rw (← c.classes-class-items.ensures.are) (yes_as _ (rw (take_all c.loop-class.class-index c.classes-class-items.result.now c.loop-class-test.false) at (c.loop-class.invariant s h)))
