use Rattle.std.proofs.Common.{◌∙◌, [], ◌∷◌, ◌++◌, ap, sym, subst, map}
use Rattle.pure_text.specs.Lists.{IsIn}
use Rattle.pure_definitions.specs.Terms.Subst.{typ_variable}
use Rattle.pure_typ.proofs.TypPlacesLemmas.{typ-seen, typ-pushed}
use Rattle.pure_typ.proofs.maps.TypMap.push.Goals as goal

pub invariant_of-self-2 : goal.invariant_of-self-2
invariant_of-self-2 c =
    let seen = typ-seen c.self.inside.binds.items c.as_slice-binds.result.now c.self.inside.places.items c.as_slice-places.result.now c.self.invariant c.as_slice-binds.ensures.value c.as_slice-places.ensures.value in
    typ-pushed c.as_slice-binds.result.now c.push.new.self.items c.as_slice-places.result.now c.reserve.new.self.items c.insert_in_room.new.places.items _ c.place_of-at.result c.args.bind
    seen (ap typ_variable c.bind.view_is) c.place_of-at.ensures
    (subst (λ bs. ¬ IsIn (typ_variable c.args.bind) (map typ_variable bs)) (sym (c.as_slice-binds.ensures.value ∙ c.self.view_is)) c.requires)
    (c.in_ok-push.ensures.items ∙ ap (λ bs. bs ++ c.args.bind ∷ []) (sym c.as_slice-binds.ensures.value)) (c.reserve.ensures.items ∙ sym c.as_slice-places.ensures.value) c.insert_in_room.ensures
