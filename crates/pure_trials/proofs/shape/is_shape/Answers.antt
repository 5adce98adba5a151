use Rattle.pure_trials.proofs.ShapeLaws.{shape-below}
use Rattle.pure_trials.proofs.shape.is_shape.Goals as goal

pub returns : goal.returns
returns c holds = shape-below c.args.shape.now (c.is_shape_from.ensures holds)
