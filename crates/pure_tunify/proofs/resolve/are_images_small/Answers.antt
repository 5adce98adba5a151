use Rattle.pure_tunify.proofs.WrittenLaws.{images_all}
use Rattle.pure_tunify.proofs.resolve.are_images_small.Goals as goal

pub returns : goal.returns
returns c = images_all c.args.settings.now c.binds-bind-items.result.now c.loop-bind.bind-index c.binds-bind-items.ensures.tidy c.binds-bind-items.ensures.distinct c.binds-bind-items.ensures.are c.loop-bind-test.false c.loop-bind.invariant
