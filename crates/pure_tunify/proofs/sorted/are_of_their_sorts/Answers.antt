use Rattle.std.proofs.Common.{take_all, subst}
use Rattle.pure_text.specs.Lists.{Each}
use Rattle.pure_definitions.specs.Types.Order.{IsOfSort}
use Rattle.pure_definitions.specs.Terms.Subst.{TypBind}
use Rattle.pure_text.proofs.LoopLaws.{each_turn}
use Rattle.pure_tunify.proofs.ReachLaws.{on_true}
use Rattle.pure_tunify.proofs.sorted.are_of_their_sorts.Goals as goal

pub loop-bind-preserved : goal.loop-bind-preserved
loop-bind-preserved c =
    each_turn (λ (b : TypBind). IsOfSort c.args.order.now b.image b.sort) c.binds-bind-items.result.now c.loop-bind.bind-index c.bind-item.result c.loop-bind-test.true c.bind-item.is c.loop-bind.invariant
    (subst (λ (b : TypBind). IsOfSort c.args.order.now b.image b.sort) c.bind.view_is (on_true _ c.in_ok-fits.fits c.in_ok-fits.ensures c.if-not-fits.false))

pub returns : goal.returns
returns c =
    subst (Each (λ (b : TypBind). IsOfSort c.args.order.now b.image b.sort)) c.binds-bind-items.ensures.are (rw (take_all c.loop-bind.bind-index c.binds-bind-items.result.now c.loop-bind-test.false) at c.loop-bind.invariant)
