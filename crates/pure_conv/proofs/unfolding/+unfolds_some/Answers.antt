use Rattle.std.proofs.Common.{◌≡◌, sym, subst, refl, false}
use Rattle.pure_definitions.specs.Terms.Term.{Term, Free, Var, Bound, Abs, App}
use Rattle.pure_conv.specs.Rules.{puts, IsLookedThrough}
use Rattle.pure_conv.proofs.UnfoldingLaws.{looked-leaf, looked-body_ok, looked-either, or-then, or-else}
use Rattle.pure_conv.proofs.unfolding.+unfolds_some.Goals as goal

pub returns-in-Free : goal.returns-in-Free
returns-in-Free t c =
    let is : c.args.t.now ≡ Free c.in-Free.name c.in-Free.typ = rw (← c.t.view_is, c.in-Free.is) refl in
    subst (λ (x : Term). IsLookedThrough (puts c.args.rule.now) x false) (sym is) (looked-leaf (puts c.args.rule.now) (Free c.in-Free.name c.in-Free.typ) refl (λ h. h))

pub returns-in-Var : goal.returns-in-Var
returns-in-Var t c =
    let is : c.args.t.now ≡ Var c.in-Var.name c.in-Var.index c.in-Var.typ = rw (← c.t.view_is, c.in-Var.is) refl in
    subst (λ (x : Term). IsLookedThrough (puts c.args.rule.now) x false) (sym is) (looked-leaf (puts c.args.rule.now) (Var c.in-Var.name c.in-Var.index c.in-Var.typ) refl (λ h. h))

pub returns-in-Bound : goal.returns-in-Bound
returns-in-Bound t c =
    let is : c.args.t.now ≡ Bound c.in-Bound.place = rw (← c.t.view_is, c.in-Bound.is) refl in
    subst (λ (x : Term). IsLookedThrough (puts c.args.rule.now) x false) (sym is) (looked-leaf (puts c.args.rule.now) (Bound c.in-Bound.place) refl (λ h. h))

pub returns-in-Abs : goal.returns-in-Abs
returns-in-Abs t c =
    let is : c.args.t.now ≡ Abs c.in-Abs.typ c.deref.result.now = rw (← c.t.view_is, c.in-Abs.is, c.deref.ensures) refl in
    looked-body_ok (puts c.args.rule.now) c.args.t.now c.deref.result.now c.in-Abs.typ c.unfolds_some.result is c.unfolds_some.ensures

pub returns-then-first : goal.returns-then-first
returns-then-first t c =
    let is : c.args.t.now ≡ App c.deref-in-App.result.now c.deref-in-App-2.result.now = rw (← c.t.view_is, c.in-App.is, c.deref-in-App.ensures, c.deref-in-App-2.ensures) refl in
    looked-either (puts c.args.rule.now) c.args.t.now c.deref-in-App.result.now c.deref-in-App-2.result.now c.in_ok-first-in-App.first c.in_ok-second-in-App.second c.in_ok-first-in-App.first is
    (or-then c.in_ok-first-in-App.first c.in_ok-second-in-App.second c.if-first.true) c.in_ok-first-in-App.ensures c.in_ok-second-in-App.ensures

pub returns-else-first : goal.returns-else-first
returns-else-first t c =
    let is : c.args.t.now ≡ App c.deref-in-App.result.now c.deref-in-App-2.result.now = rw (← c.t.view_is, c.in-App.is, c.deref-in-App.ensures, c.deref-in-App-2.ensures) refl in
    looked-either (puts c.args.rule.now) c.args.t.now c.deref-in-App.result.now c.deref-in-App-2.result.now c.in_ok-first-in-App.first c.in_ok-second-in-App.second c.in_ok-second-in-App.second is
    (or-else c.in_ok-first-in-App.first c.in_ok-second-in-App.second c.if-first.false) c.in_ok-first-in-App.ensures c.in_ok-second-in-App.ensures
