use Rattle.std.proofs.Common.{sym, subst}
use Rattle.pure_definitions.specs.Types.Order.{IsOfSort}
use Rattle.pure_tunify.proofs.GraphClassLaws.{sort_turn}
use Rattle.pure_tunify.proofs.demands.demand_sort.Goals as goal

pub loop-class-preserved : goal.loop-class-preserved
loop-class-preserved c = λ A v each of.
    sort_turn A v c.classes-class-items.result.now c.loop-class.class-index c.class-item.result c.args.node c.loop-class.work.items c.push.new.self.items c.loop-class-test.true c.class-item.is c.in_ok-push.ensures.items of (c.loop-class.invariant A v each of)

pub returns : goal.returns
returns c = λ A v each of. c.loop-class.invariant A v each (subst (IsOfSort A (v c.args.node)) (sym c.classes-class-items.ensures.are) of)
