use Rattle.std.proofs.Common.{map}
use Rattle.pure_tunify.specs.GraphCode.{part_of}
use Rattle.pure_tunify.proofs.AskLaws.{when_true, when_false}
use Rattle.pure_tunify.proofs.GraphClassLaws.{asked_step}
use Rattle.pure_tunify.proofs.demands.asked_classes.Goals as goal

pub loop-init : goal.loop-init
loop-init c = λ v fits by_root by_shape. c.in_ok-work.ensures c.args.order.now v fits

pub loop-preserved : goal.loop-preserved
loop-preserved c =
    when_true _ _ c.in_ok-can.can
    (asked_step c.args.order.now (map part_of c.args.nodes.now) c.args.roots.now c.args.shapes.now c.loop.work.items c.pop.new.self.items c.ask.new.work.items c.in-Some.wanted c.in_ok-can.can c.in-Some.ensures.items c.in_ok-can.ensures c.loop.invariant)
    c.if-not-can.false

pub returns-then-not-can : goal.returns-then-not-can
returns-then-not-can c =
    when_false _ _ c.in_ok-can.can
    (asked_step c.args.order.now (map part_of c.args.nodes.now) c.args.roots.now c.args.shapes.now c.loop.work.items c.pop.new.self.items c.ask.new.work.items c.in-Some.wanted c.in_ok-can.can c.in-Some.ensures.items c.in_ok-can.ensures c.loop.invariant)
    c.if-not-can.true
