use Rattle.std.proofs.Common.{◌≡◌, ◌∙◌, map, ap, sym, subst}
use Rattle.pure_text.specs.Lists.{IsIn}
use Rattle.pure_definitions.specs.Types.Typ.{TVar}
use Rattle.pure_definitions.specs.Terms.Subst.{TypBind, typ_variable, typ_image}
use Rattle.pure_definitions.proofs.EntryLemmas.{typ_image-absent}
use Rattle.pure_typ.specs.TypBound.{IsTypBound}
use Rattle.pure_typ.proofs.TypPlacesLemmas.{typ-seen, typ-past, typ-other, typ-found, typ-bound}
use Rattle.pure_typ.proofs.maps.TypMap.find.Goals as goal

pub returns-then-places-at-clause-bound : goal.returns-then-places-at-clause-bound
returns-then-places-at-clause-bound c =
    let v = TVar c.args.name c.args.index c.args.sort.now in
    let seen = typ-seen c.self.inside.binds.items c.as_slice-binds.result.now c.self.inside.places.items c.as_slice-places.result.now c.self.invariant c.as_slice-binds.ensures.value c.as_slice-places.ensures.value in
    subst (λ bs. ¬ IsIn v (map typ_variable bs)) (c.as_slice-binds.ensures.value ∙ c.self.view_is)
    (typ-past c.as_slice-binds.result.now c.as_slice-places.result.now seen.1 v c.place_of-at.result c.place_of-at.ensures c.if-places-at.true)

pub returns-then-places-at-clause-image : goal.returns-then-places-at-clause-image
returns-then-places-at-clause-image c =
    let v = TVar c.args.name c.args.index c.args.sort.now in
    let seen = typ-seen c.self.inside.binds.items c.as_slice-binds.result.now c.self.inside.places.items c.as_slice-places.result.now c.self.invariant c.as_slice-binds.ensures.value c.as_slice-places.ensures.value in
    subst (λ bs. typ_image bs v ≡ v) (c.as_slice-binds.ensures.value ∙ c.self.view_is)
    (typ_image-absent c.as_slice-binds.result.now v
    (typ-past c.as_slice-binds.result.now c.as_slice-places.result.now seen.1 v c.place_of-at.result c.place_of-at.ensures c.if-places-at.true))

pub returns-then-not-replaces_typ-clause-bound : goal.returns-then-not-replaces_typ-clause-bound
returns-then-not-replaces_typ-clause-bound c =
    let v = TVar c.args.name c.args.index c.args.sort.now in
    let seen = typ-seen c.self.inside.binds.items c.as_slice-binds.result.now c.self.inside.places.items c.as_slice-places.result.now c.self.invariant c.as_slice-binds.ensures.value c.as_slice-places.ensures.value in
    subst (λ bs. ¬ IsIn v (map typ_variable bs)) (c.as_slice-binds.ensures.value ∙ c.self.view_is)
    (typ-other c.as_slice-binds.result.now c.as_slice-places.result.now seen.1 v c.place_of-at.result c.place_of-at.ensures c.index-binds-place.result c.if-places-at.false c.index-binds-place.is (sym c.replaces_typ.ensures ∙ c.if-not-replaces_typ.true))

pub returns-then-not-replaces_typ-clause-image : goal.returns-then-not-replaces_typ-clause-image
returns-then-not-replaces_typ-clause-image c =
    let v = TVar c.args.name c.args.index c.args.sort.now in
    let seen = typ-seen c.self.inside.binds.items c.as_slice-binds.result.now c.self.inside.places.items c.as_slice-places.result.now c.self.invariant c.as_slice-binds.ensures.value c.as_slice-places.ensures.value in
    subst (λ bs. typ_image bs v ≡ v) (c.as_slice-binds.ensures.value ∙ c.self.view_is)
    (typ_image-absent c.as_slice-binds.result.now v
    (typ-other c.as_slice-binds.result.now c.as_slice-places.result.now seen.1 v c.place_of-at.result c.place_of-at.ensures c.index-binds-place.result c.if-places-at.false c.index-binds-place.is (sym c.replaces_typ.ensures ∙ c.if-not-replaces_typ.true)))

pub returns-clause-bound : goal.returns-clause-bound
returns-clause-bound c =
    let v = TVar c.args.name c.args.index c.args.sort.now in
    let seen = typ-seen c.self.inside.binds.items c.as_slice-binds.result.now c.self.inside.places.items c.as_slice-places.result.now c.self.invariant c.as_slice-binds.ensures.value c.as_slice-places.ensures.value in
    subst (λ bs. IsTypBound bs v c.bind.inside.image) (c.as_slice-binds.ensures.value ∙ c.self.view_is) (subst (λ image. IsTypBound c.as_slice-binds.result.now v image) (ap (λ (b : TypBind). b.image) (sym c.bind.view_is))
    (typ-found c.as_slice-binds.result.now c.as_slice-places.result.now seen.1 v c.place_of-at.result c.place_of-at.ensures c.index-binds-place.result c.if-places-at.false c.index-binds-place.is (sym c.replaces_typ.ensures ∙ c.if-not-replaces_typ.false)))

pub returns-clause-image : goal.returns-clause-image
returns-clause-image c =
    let v = TVar c.args.name c.args.index c.args.sort.now in
    let seen = typ-seen c.self.inside.binds.items c.as_slice-binds.result.now c.self.inside.places.items c.as_slice-places.result.now c.self.invariant c.as_slice-binds.ensures.value c.as_slice-places.ensures.value in
    subst (λ bs. typ_image bs v ≡ c.bind.inside.image) (c.as_slice-binds.ensures.value ∙ c.self.view_is)
    (typ-bound c.as_slice-binds.result.now v _ seen.0
    (typ-found c.as_slice-binds.result.now c.as_slice-places.result.now seen.1 v c.place_of-at.result c.place_of-at.ensures c.index-binds-place.result c.if-places-at.false c.index-binds-place.is (sym c.replaces_typ.ensures ∙ c.if-not-replaces_typ.false)) ∙ ap (λ (b : TypBind). b.image) (sym c.bind.view_is))
