use Rattle.pure_unify.proofs.ImageLaws.{first_at, later_at}
use Rattle.pure_unify.proofs.images.image_from.Goals as goal

pub returns-then-number-eq0 : goal.returns-then-number-eq0
returns-then-number-eq0 c = first_at c.args.index c.args.typ.now c.args.head.now c.args.number c.first_image.result c.if-number-eq0.true c.first_image.ensures

pub returns : goal.returns
returns c = later_at c.args.index c.args.typ.now c.args.head.now c.args.number c.projection_from.result c.if-number-eq0.false c.projection_from.ensures
