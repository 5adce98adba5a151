use Rattle.pure_tunify.proofs.ReachLaws.{reached_start, reached_turn, reached_all}
use Rattle.pure_tunify.proofs.reached.reached.Goals as goal

pub loop-bind-init : goal.loop-bind-init
loop-bind-init c = reached_start c.args.t.now c.in_ok-copy.copy c.new-typs.result.items c.push.new.self.items c.new-typs.ensures.items c.in_ok-copy.ensures c.in_ok-push.ensures.items

pub loop-bind-preserved : goal.loop-bind-preserved
loop-bind-preserved c = reached_turn c.args.settings.now.sets c.binds-bind-items.result.now c.loop-bind.bind-index c.bind-item.result c.args.t.now c.loop-bind.typs.items c.reach.new.typs.items c.binds-bind-items.ensures.are c.binds-bind-items.ensures.distinct c.loop-bind-test.true c.bind-item.is
    c.loop-bind.invariant c.in_ok-reach.ensures

pub returns : goal.returns
returns c = reached_all c.args.settings.now.sets c.binds-bind-items.result.now c.loop-bind.bind-index c.args.t.now c.loop-bind.typs.items c.binds-bind-items.ensures.are c.loop-bind-test.false c.loop-bind.invariant
