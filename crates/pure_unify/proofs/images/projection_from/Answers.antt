use Rattle.std.proofs.Common.{◌+◌, ◌<◌, ◌^◌, subst, refl, arith}
use Rattle.pure_definitions.specs.Types.Typ.{Typ}
use Rattle.pure_unify_definitions.specs.Fronts.{domains}
use Rattle.pure_unify.specs.Images.{HasNoFit, IsFirstFit}
use Rattle.pure_unify.proofs.ImageLaws.{places_few, place_within, first_projection, no_projection}
use Rattle.pure_unify.proofs.images.projection_from.Goals as goal

pub first_fit-requires : goal.first_fit-requires
first_fit-requires c = record { places = places_few c.args.typ.now c.behind-rest.result.now c.args.from c.requires.few c.ranges.from.fits c.behind-rest.ensures.domains }

pub projection_to-requires-clause-place : goal.projection_to-requires-clause-place
projection_to-requires-clause-place c =
    (place_within c.args.typ.now c.behind-rest.result.now c.args.from c.in-Some.place c.requires.few c.behind-rest.ensures.domains c.in-Some.ensures.small.0 c.in-Some.ensures.small.1).0

pub overflow_add-result : goal.overflow_add-result
overflow_add-result c =
    let fits : c.in-Some.place + 2 < 2 ^ 32 =
    (place_within c.args.typ.now c.behind-rest.result.now c.args.from c.in-Some.place c.requires.few c.behind-rest.ensures.domains c.in-Some.ensures.small.0 c.in-Some.ensures.small.1).1 in
    omega arith

pub returns-in_ok-image-in-Some : goal.returns-in_ok-image-in-Some
returns-in_ok-image-in-Some c h =
    first_projection c.args.index c.args.typ.now c.behind-rest.result.now c.in-Some.domain.now h c.in_ok-image-in-Some.image c.args.from c.in-Some.place (c.in-Some.place + 2) c.behind-rest.ensures.domains
    (subst (λ (R : Typ). IsFirstFit R c.args.from (domains c.behind-rest.result.now) c.in-Some.place c.in-Some.domain.now) c.range_of.ensures c.in-Some.ensures.fits) c.in_ok-image-in-Some.ensures refl

pub returns-in-None : goal.returns-in-None
returns-in-None c h =
    no_projection c.args.index c.args.typ.now c.behind-rest.result.now h c.args.from c.behind-rest.ensures.domains
    (subst (λ (R : Typ). HasNoFit R (domains c.behind-rest.result.now)) c.range_of.ensures c.in-None.ensures.fits)
