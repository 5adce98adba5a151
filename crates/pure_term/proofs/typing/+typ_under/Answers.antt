use Rattle.std.proofs.Common.{◌≡◌, refl, sym, subst, ◌∙◌}
use Rattle.pure_definitions.specs.Terms.Term.{Abs, App}
use Rattle.pure_term.specs.Scope.{scope_typs}
use Rattle.pure_term.specs.TypeAnswer.{IsFoundAnswer}
use Rattle.pure_term.proofs.typing.+typ_under.Goals as goal

pub returns-in-Abs : goal.returns-in-Abs
returns-in-Abs t c =
    let e : c.args.t.now ≡ Abs c.in-Abs.typ c.deref.result.now = rw (← c.t.view_is, c.in-Abs.is, c.deref.ensures) refl in
    rw e (c.answer_at_abs.ensures (scope_typs c.args.scope.now) c.deref.result.now c.typ_under-range.ensures)

pub returns-in-App : goal.returns-in-App
returns-in-App t c =
    let e : c.args.t.now ≡ App c.deref-in-App-3.result.now c.deref-in-App-2.result.now = rw (← c.t.view_is, c.in-App.is, c.deref-in-App-3.ensures, c.deref-in-App-2.ensures) refl in
    let same : c.deref-in-App.result.now ≡ c.deref-in-App-3.result.now = c.deref-in-App.ensures ∙ sym c.deref-in-App-3.ensures in
    let function : IsFoundAnswer (scope_typs c.args.scope.now) c.deref-in-App-3.result.now c.typ_under-function.result =
    subst (λ f. IsFoundAnswer (scope_typs c.args.scope.now) f c.typ_under-function.result) same c.typ_under-function.ensures in
    rw e (c.answer_at_app.ensures (scope_typs c.args.scope.now) c.deref-in-App-2.result.now function c.typ_under-argument.ensures)
