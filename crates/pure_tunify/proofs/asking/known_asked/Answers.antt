use Rattle.pure_tunify.proofs.AskingLaws.{known_first, known_turn, known_all}
use Rattle.pure_tunify.proofs.asking.known_asked.Goals as goal

pub loop-one-init : goal.loop-one-init
loop-one-init c = known_first c.args.order.now c.args.asked.now c.new-known.result c.new-known.ensures.empty

pub loop-one-preserved : goal.loop-one-preserved
loop-one-preserved c = known_turn c.args.order.now c.args.asked.now c.loop-one.one-index c.one-item.result c.loop-one-test.true c.one-item.is c.loop-one.known c.know_asked.new.known c.loop-one.invariant c.in_ok-know_asked.ensures

pub returns : goal.returns
returns c = known_all c.args.order.now c.args.asked.now c.loop-one.one-index c.loop-one.known c.loop-one-test.false c.loop-one.invariant
