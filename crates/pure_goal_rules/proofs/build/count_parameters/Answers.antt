use Rattle.pure_goal_rules.proofs.PrefixLaws.{counted_turn}
use Rattle.pure_goal_rules.proofs.build.count_parameters.Goals as goal

pub loop-item-preserved : goal.loop-item-preserved
loop-item-preserved c = counted_turn c.args.items.now c.loop-item.item-index c.item-item.result c.loop-item.count c.in_ok-count.count c.loop-item-test.true c.item-item.is c.in_ok-count.ensures c.loop-item.invariant
