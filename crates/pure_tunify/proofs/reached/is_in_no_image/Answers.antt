use Rattle.pure_tunify.proofs.ReachLaws.{in_no_image}
use Rattle.pure_tunify.proofs.reached.is_in_no_image.Goals as goal

pub returns : goal.returns
returns c = in_no_image c.args.variable.now c.args.settings.now.sets c.binds-bind-items.result.now c.loop-bind.bind-index c.binds-bind-items.ensures.are c.loop-bind-test.false c.loop-bind.invariant
