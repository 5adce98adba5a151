use Rattle.std.proofs.Common.{◌≡◌, IfOk, refl, sym, subst, arith}
use Rattle.pure_definitions.specs.Terms.Term.{Term, Bound}
use Rattle.pure_definitions.specs.Terms.Bounds.{lift_term}
use Rattle.pure_norm.specs.Env.{Bind, Under, Raise, meant}
use Rattle.pure_norm.specs.Held.{IsFound}
use Rattle.pure_norm.proofs.FoundLemmas.{at_raise, at_under, at_stays, at_other, at_itself}
use Rattle.pure_norm.proofs.held.+find.Goals as goal

pub returns-then-place-eq0 : goal.returns-then-place-eq0
returns-then-place-eq0 t c =
    let e : c.args.scope.now ≡ Under c.in-Under.rest.value = rw (← c.scope.view_is, c.in-Under.is) refl in
    at_stays c.args.up c.args.place c.args.scope.now c.in-Under.rest.value e c.if-place-eq0.true

pub returns-then-place-ne0 : goal.returns-then-place-ne0
returns-then-place-ne0 t c =
    let e : c.args.scope.now ≡ Bind c.in-Bind.piece.term.now c.in-Bind.inner.value c.deref-then-place-ne0.result.now = rw (← c.scope.view_is, c.in-Bind.is, c.deref-then-place-ne0.ensures) refl in
    at_other c.args.up c.args.place c.in-Bind.piece.term.now c.args.scope.now c.in-Bind.inner.value c.deref-then-place-ne0.result.now c.find-then-place-ne0.result e
    (omega (arith, c.if-place-ne0.true)) c.find-then-place-ne0.ensures

pub returns-in-Some-place_of : goal.returns-in-Some-place_of
returns-in-Some-place_of t c =
    let b : c.in-Bind.piece.term.now ≡ Bound c.in-Some-place_of.place = c.in-Some-place_of.ensures in
    let e : c.args.scope.now ≡ Bind c.in-Bind.piece.term.now c.deref-in-Some-place_of.result.now c.in-Bind.rest.value = rw (← c.scope.view_is, c.in-Bind.is, c.deref-in-Some-place_of.ensures) refl in
    at_itself c.args.up c.args.place c.in-Bind.piece.term.now c.args.scope.now c.deref-in-Some-place_of.result.now c.in-Bind.rest.value c.find-in-Some-place_of.result e c.if-place-ne0.false
    (subst (λ (u : Term). IfOk c.find-in-Some-place_of.result (λ f. IsFound (lift_term c.args.up 0 (meant c.deref-in-Some-place_of.result.now u)) f)) (sym b) c.find-in-Some-place_of.ensures)

pub returns-in-Some : goal.returns-in-Some
returns-in-Some t c =
    let e : c.args.scope.now ≡ Raise c.in-Raise.by c.deref.result.now = rw (← c.scope.view_is, c.in-Raise.is, c.deref.ensures) refl in
    at_raise c.args.up c.in-Raise.by c.in-Some.up c.args.place c.args.scope.now c.deref.result.now c.find.result e (omega (arith, c.in-Some.ensures)) c.find.ensures

pub returns-in-Some-checked_add : goal.returns-in-Some-checked_add
returns-in-Some-checked_add t c =
    let e : c.args.scope.now ≡ Under c.deref-in-Under.result.now = rw (← c.scope.view_is, c.in-Under.is, c.deref-in-Under.ensures) refl in
    at_under c.args.up c.in-Some-checked_add.up c.args.place c.args.scope.now c.deref-in-Under.result.now c.find-in-Under.result e (omega (arith, c.in-Some-checked_add.ensures))
    (omega (arith, c.if-place-eq0.false)) c.find-in-Under.ensures

pub returns-in_default-place_of : goal.returns-in_default-place_of
returns-in_default-place_of t c =
    let e : c.args.scope.now ≡ Bind c.in-Bind.piece.term.now c.in-Bind.inner.value c.in-Bind.rest.value = rw (← c.scope.view_is, c.in-Bind.is) refl in
    at_itself c.args.up c.args.place c.in-Bind.piece.term.now c.args.scope.now c.in-Bind.inner.value c.in-Bind.rest.value c.keep.result e c.if-place-ne0.false c.keep.ensures
