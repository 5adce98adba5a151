use Rattle.std.proofs.Common.{take_all}
use Rattle.pure_text.proofs.AnswerLaws.{test_fails, yes_as, no_as}
use Rattle.pure_text.proofs.ListLaws.{each_read}
use Rattle.pure_text.proofs.LoopLaws.{each_turn}
use Rattle.pure_definitions.specs.Types.Order.{IsOfSort}
use Rattle.pure_definitions.specs.Terms.Subst.{TypBind}
use Rattle.pure_conv.proofs.rule.all_sorted.Goals as goal

pub returns-then-not-is_sorted : goal.returns-then-not-is_sorted
returns-then-not-is_sorted c =
    let fails = test_fails _ c.is_sorted.result c.is_sorted.ensures c.if-not-is_sorted.true in
    no_as _ (λ each. fails (each_read (λ (b : TypBind). IsOfSort c.args.order.now b.image b.sort) c.args.binds.now c.loop-bind.bind-index c.bind-item.result c.loop-bind-test.true c.bind-item.is each))

pub loop-bind-preserved : goal.loop-bind-preserved
loop-bind-preserved c =
    each_turn (λ (b : TypBind). IsOfSort c.args.order.now b.image b.sort) c.args.binds.now c.loop-bind.bind-index c.bind-item.result c.loop-bind-test.true c.bind-item.is c.loop-bind.invariant (c.is_sorted.ensures.0 c.if-not-is_sorted.false)

pub returns : goal.returns
returns c = yes_as _ (rw (take_all c.loop-bind.bind-index c.args.binds.now c.loop-bind-test.false) at c.loop-bind.invariant)
