use Rattle.std.proofs.Common.{take_all}
use Rattle.pure_text.proofs.ListLaws.{any_read}
use Rattle.pure_definitions.specs.Types.Order.{IsClassBelow}
use Rattle.pure_tunify.proofs.GraphClassLaws.{none_any}
use Rattle.pure_tunify.proofs.demands.has_class_below.Goals as goal

pub returns-then-below : goal.returns-then-below
returns-then-below c =
    rw (← c.classes-own-items.ensures.are) (any_read (λ b. IsClassBelow c.args.order.now b c.args.class) c.classes-own-items.result.now c.loop-own.own-index c.own-item.result c.loop-own-test.true c.own-item.is (c.below.ensures.0 c.if-below.true))

pub returns : goal.returns
returns c =
    rw (← c.classes-own-items.ensures.are) (none_any (λ b. IsClassBelow c.args.order.now b c.args.class) c.classes-own-items.result.now (rw (take_all c.loop-own.own-index c.classes-own-items.result.now c.loop-own-test.false) at c.loop-own.invariant))
