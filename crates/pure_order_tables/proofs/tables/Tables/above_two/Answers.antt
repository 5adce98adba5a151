use Rattle.pure_order_tables.proofs.TwiceLaws.{above_all, above_start, above_turn}
use Rattle.pure_order_tables.proofs.tables.Tables.above_two.Goals as goal

pub loop-class-init : goal.loop-class-init
loop-class-init c = above_start c.args.self.now c.classes-class-items.result.now c.in_ok-once.once.items c.in_ok-twice.twice.items (rw c.class_count.ensures at c.in_ok-once.ensures.count) (rw c.class_count.ensures at c.in_ok-twice.ensures.count) c.in_ok-once.ensures.none c.in_ok-twice.ensures.none

pub loop-class-preserved : goal.loop-class-preserved
loop-class-preserved c = above_turn c.args.self.now c.classes-class-items.result.now c.loop-class.once.items c.loop-class.twice.items _ _ c.loop-class.class-index c.class-item.result (rw c.classes-class-items.ensures.are c.classes-class-items.ensures.ascend) c.loop-class-test.true c.class-item.is
    c.put_above.ensures c.loop-class.invariant

pub returns : goal.returns
returns c = above_all c.args.self.now c.args.s.now c.classes-class-items.result.now c.loop-class.once.items c.loop-class.twice.items c.loop-class.class-index c.classes-class-items.ensures.are c.loop-class-test.false c.loop-class.invariant
