use Rattle.std.proofs.Common.{refl}
use Rattle.pure_pattern_terms.proofs.PlaceLaws.{first-lacks, last-lacks, with-places}
use Rattle.pure_pattern_terms.proofs.places.+places_of.Goals as goal

pub returns-in_default-2 : goal.returns-in_default-2
returns-in_default-2 t c = first-lacks c.args.t.now c.in-App.fun.value c.in-App.arg.value c.deref.result.now c.in_ok-places-in-App.field-0 _ (rw (← c.t.view_is, c.in-App.is) refl) c.deref.ensures c.in_default-2.not-Some c.in_ok-places-in-App.ensures

pub returns-in_default-3 : goal.returns-in_default-3
returns-in_default-3 t c = last-lacks c.args.t.now c.in-App.fun.value c.in-App.arg.value c.deref-in-App.result.now c.in_ok-place-in-App.field-0 (rw (← c.t.view_is, c.in-App.is) refl) c.deref-in-App.ensures c.in_default-3.not-Some c.in_ok-place-in-App.ensures

pub returns-in-Some-2 : goal.returns-in-Some-2
returns-in-Some-2 t c =
    with-places (λ v. v.items) c.with_place.result c.args.t.now c.in-App.fun.value c.in-App.arg.value c.deref.result.now c.deref-in-App.result.now c.in-Some.places.items c.in-Some-2.place
    (rw (← c.t.view_is, c.in-App.is) refl) c.deref.ensures c.deref-in-App.ensures (rw c.in-Some.is at c.in_ok-places-in-App.ensures) (rw c.in-Some-2.is at c.in_ok-place-in-App.ensures) c.with_place.ensures
