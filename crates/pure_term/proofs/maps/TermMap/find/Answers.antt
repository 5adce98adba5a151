use Rattle.std.proofs.Common.{◌≡◌, ◌∙◌, map, ap, sym, subst}
use Rattle.pure_text.specs.Lists.{IsIn}
use Rattle.pure_definitions.specs.Terms.Term.{Var}
use Rattle.pure_definitions.specs.Terms.Subst.{TermBind, term_variable, term_image}
use Rattle.pure_definitions.proofs.EntryLemmas.{term_image-absent}
use Rattle.pure_term.specs.TermBound.{IsTermBound}
use Rattle.pure_term.proofs.TermPlacesLemmas.{term-seen, term-past, term-other, term-found, term-bound}
use Rattle.pure_term.proofs.maps.TermMap.find.Goals as goal

pub returns-then-places-at-clause-bound : goal.returns-then-places-at-clause-bound
returns-then-places-at-clause-bound c =
    let v = Var c.args.name c.args.index c.args.typ.now in
    let seen = term-seen c.self.inside.binds.items c.as_slice-binds.result.now c.self.inside.places.items c.as_slice-places.result.now c.self.invariant c.as_slice-binds.ensures.value c.as_slice-places.ensures.value in
    subst (λ bs. ¬ IsIn v (map term_variable bs)) (c.as_slice-binds.ensures.value ∙ c.self.view_is)
    (term-past c.as_slice-binds.result.now c.as_slice-places.result.now seen.1 v c.place_of-at.result c.place_of-at.ensures c.if-places-at.true)

pub returns-then-places-at-clause-image : goal.returns-then-places-at-clause-image
returns-then-places-at-clause-image c =
    let v = Var c.args.name c.args.index c.args.typ.now in
    let seen = term-seen c.self.inside.binds.items c.as_slice-binds.result.now c.self.inside.places.items c.as_slice-places.result.now c.self.invariant c.as_slice-binds.ensures.value c.as_slice-places.ensures.value in
    subst (λ bs. term_image bs v ≡ v) (c.as_slice-binds.ensures.value ∙ c.self.view_is)
    (term_image-absent c.as_slice-binds.result.now v
    (term-past c.as_slice-binds.result.now c.as_slice-places.result.now seen.1 v c.place_of-at.result c.place_of-at.ensures c.if-places-at.true))

pub returns-then-not-replaces_term-clause-bound : goal.returns-then-not-replaces_term-clause-bound
returns-then-not-replaces_term-clause-bound c =
    let v = Var c.args.name c.args.index c.args.typ.now in
    let seen = term-seen c.self.inside.binds.items c.as_slice-binds.result.now c.self.inside.places.items c.as_slice-places.result.now c.self.invariant c.as_slice-binds.ensures.value c.as_slice-places.ensures.value in
    subst (λ bs. ¬ IsIn v (map term_variable bs)) (c.as_slice-binds.ensures.value ∙ c.self.view_is)
    (term-other c.as_slice-binds.result.now c.as_slice-places.result.now seen.1 v c.place_of-at.result c.place_of-at.ensures c.index-binds-place.result c.if-places-at.false c.index-binds-place.is (sym c.replaces_term.ensures ∙ c.if-not-replaces_term.true))

pub returns-then-not-replaces_term-clause-image : goal.returns-then-not-replaces_term-clause-image
returns-then-not-replaces_term-clause-image c =
    let v = Var c.args.name c.args.index c.args.typ.now in
    let seen = term-seen c.self.inside.binds.items c.as_slice-binds.result.now c.self.inside.places.items c.as_slice-places.result.now c.self.invariant c.as_slice-binds.ensures.value c.as_slice-places.ensures.value in
    subst (λ bs. term_image bs v ≡ v) (c.as_slice-binds.ensures.value ∙ c.self.view_is)
    (term_image-absent c.as_slice-binds.result.now v
    (term-other c.as_slice-binds.result.now c.as_slice-places.result.now seen.1 v c.place_of-at.result c.place_of-at.ensures c.index-binds-place.result c.if-places-at.false c.index-binds-place.is (sym c.replaces_term.ensures ∙ c.if-not-replaces_term.true)))

pub returns-clause-bound : goal.returns-clause-bound
returns-clause-bound c =
    let v = Var c.args.name c.args.index c.args.typ.now in
    let seen = term-seen c.self.inside.binds.items c.as_slice-binds.result.now c.self.inside.places.items c.as_slice-places.result.now c.self.invariant c.as_slice-binds.ensures.value c.as_slice-places.ensures.value in
    subst (λ bs. IsTermBound bs v c.bind.inside.image) (c.as_slice-binds.ensures.value ∙ c.self.view_is) (subst (λ image. IsTermBound c.as_slice-binds.result.now v image) (ap (λ (b : TermBind). b.image) (sym c.bind.view_is))
    (term-found c.as_slice-binds.result.now c.as_slice-places.result.now seen.1 v c.place_of-at.result c.place_of-at.ensures c.index-binds-place.result c.if-places-at.false c.index-binds-place.is (sym c.replaces_term.ensures ∙ c.if-not-replaces_term.false)))

pub returns-clause-image : goal.returns-clause-image
returns-clause-image c =
    let v = Var c.args.name c.args.index c.args.typ.now in
    let seen = term-seen c.self.inside.binds.items c.as_slice-binds.result.now c.self.inside.places.items c.as_slice-places.result.now c.self.invariant c.as_slice-binds.ensures.value c.as_slice-places.ensures.value in
    subst (λ bs. term_image bs v ≡ c.bind.inside.image) (c.as_slice-binds.ensures.value ∙ c.self.view_is)
    (term-bound c.as_slice-binds.result.now v _ seen.0
    (term-found c.as_slice-binds.result.now c.as_slice-places.result.now seen.1 v c.place_of-at.result c.place_of-at.ensures c.index-binds-place.result c.if-places-at.false c.index-binds-place.is (sym c.replaces_term.ensures ∙ c.if-not-replaces_term.false)) ∙ ap (λ (b : TermBind). b.image) (sym c.bind.view_is))
