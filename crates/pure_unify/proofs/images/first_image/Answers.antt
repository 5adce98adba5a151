use Rattle.std.proofs.Common.{◌≡◌, ◌∷◌, []}
use Rattle.pure_unify_definitions.specs.Fronts.{domains}
use Rattle.pure_unify_definitions.specs.Children.{imitations}
use Rattle.pure_unify.proofs.ImageLaws.{imitation_first, projections_first}
use Rattle.pure_unify.proofs.images.first_image.Goals as goal

pub returns-in-Some : goal.returns-in-Some
returns-in-Some c =
    let one : imitations c.args.index (domains c.args.typ.now) c.args.head.now ≡ c.in-Some.image ∷ [] = rw c.in-Some.is at c.in_ok-found.ensures in
    imitation_first c.args.index c.args.typ.now c.args.head.now c.in-Some.image one

pub returns-in-None : goal.returns-in-None
returns-in-None c =
    let none : imitations c.args.index (domains c.args.typ.now) c.args.head.now ≡ [] = rw c.in-None.is at c.in_ok-found.ensures in
    projections_first c.args.index c.args.typ.now c.args.head.now c.projection_from.result none c.projection_from.ensures
