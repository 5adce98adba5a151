use Rattle.std.proofs.Common.{take_all}
use Rattle.pure_text.proofs.AnswerLaws.{test_fails}
use Rattle.pure_text.proofs.ListLaws.{read_in}
use Rattle.pure_order.specs.Domains.{IsAboveAnother}
use Rattle.pure_order.proofs.AlgebraLaws.{reduced_equivalent, reduced_least}
use Rattle.pure_order.proofs.ReduceLaws.{kept_one, dropped_one}
use Rattle.pure_order.proofs.order.Order.reduce.Goals as goal
use Rattle.pure_order.proofs.order.Order.reduce.Goals.{then-not-is_above_by+in_ok-push, else-not-is_above_by}

pub is_above_by-requires-clause-member : goal.is_above_by-requires-clause-member
is_above_by-requires-clause-member c = rw c.classes-class-items.ensures.are at (read_in c.classes-class-items.result.now c.loop-class.class-index c.class-item.result c.loop-class-test.true c.class-item.is)

pub loop-class-preserved : goal.loop-class-preserved
loop-class-preserved c = elim c.if-not-is_above_by.branch [
  | then-not-is_above_by+in_ok-push w ↦ rw (w.classes-is, w.in_ok-push.ensures.items) (kept_one (λ c'. ¬ IsAboveAnother c.args.self.now c.args.s.now c') c.classes-class-items.result.now c.loop-class.classes.items c.loop-class.class-index c.class-item.result (rw c.classes-class-items.ensures.are c.classes-class-items.ensures.ascend) c.loop-class-test.true c.class-item.is
      (test_fails _ c.is_above_by.result c.is_above_by.ensures w.if-not-is_above_by.true) c.loop-class.invariant)
  | else-not-is_above_by w ↦ rw w.classes-is (dropped_one (λ c'. ¬ IsAboveAnother c.args.self.now c.args.s.now c') c.classes-class-items.result.now c.loop-class.classes.items c.loop-class.class-index c.class-item.result c.loop-class-test.true c.class-item.is
      (λ n. n (c.is_above_by.ensures.0 w.if-not-is_above_by.false)) c.loop-class.invariant)
]

pub returns-clause-reduced : goal.returns-clause-reduced
returns-clause-reduced c =
    let all = rw (take_all c.loop-class.class-index c.classes-class-items.result.now c.loop-class-test.false, c.classes-class-items.ensures.are) at c.loop-class.invariant in
    rw c.in_ok-sort.ensures all.are

pub returns-clause-below : goal.returns-clause-below
returns-clause-below c =
    let all = rw (take_all c.loop-class.class-index c.classes-class-items.result.now c.loop-class-test.false, c.classes-class-items.ensures.are) at c.loop-class.invariant in
    rw c.in_ok-sort.ensures (reduced_equivalent c.args.self.now (rw c.self.view_is at c.order_is_decided.ensures) (rw c.self.view_is at c.classes_are_apart.ensures) c.args.s.now c.loop-class.classes.items all.are)

pub returns-clause-least : goal.returns-clause-least
returns-clause-least c =
    let all = rw (take_all c.loop-class.class-index c.classes-class-items.result.now c.loop-class-test.false, c.classes-class-items.ensures.are) at c.loop-class.invariant in
    rw c.in_ok-sort.ensures (reduced_least c.args.self.now c.args.s.now c.loop-class.classes.items all.are)
