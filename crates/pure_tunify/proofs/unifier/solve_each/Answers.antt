use Rattle.std.proofs.Common.{arith}
use Rattle.std.specs.Vec.Iter.{into_iter_items}
use Rattle.pure_tunify.proofs.UnifyLaws.{taken_next, taken_old, come_all}
use Rattle.pure_tunify.proofs.unifier.solve_each.Goals as goal

pub solve_given-requires : goal.solve_given-requires
solve_given-requires c =
    taken_old c.args.order.now c.args.settings.now.index c.args.settings.now.next c.args.pairs.items (into_iter_items c.loop-pair.pair-iterator) (into_iter_items c.next.new.self) c.in-Some.pair c.loop-pair.settings c.in-Some.ensures.steps.0
    c.loop-pair.invariant c.requires.old

pub loop-pair-preserved : goal.loop-pair-preserved
loop-pair-preserved c =
    taken_next c.args.order.now c.args.settings.now.index c.args.settings.now.next c.args.pairs.items (into_iter_items c.loop-pair.pair-iterator) (into_iter_items c.next.new.self) c.in-Some.pair c.loop-pair.settings c.in-Some.ensures.steps.0
    c.loop-pair.invariant c.solve_given.new.settings (rw c.in-Further.is at c.in_ok-turned.ensures)

pub returns : goal.returns
returns c =
    let it = c.loop-pair.pair-iterator in
    come_all c.args.order.now c.args.settings.now.index c.args.settings.now.next c.args.pairs.items (into_iter_items it) c.loop-pair.settings (omega (arith, it.rest.ok.0, c.in-None.ensures.steps.0)) c.loop-pair.invariant
