use Rattle.std.proofs.Common.{◌≡◌, ◌∙◌, false, sym, refl}
use Rattle.pure_definitions.specs.Terms.Term.{App, Bound}
use Rattle.pure_eta.specs.EtaForm.{is_loose, lower_by}
use Rattle.pure_eta.proofs.BareLaws.{contracted-once}
use Rattle.pure_eta.proofs.eta.contract.Goals as goal

pub returns-then-not-is_loose_at : goal.returns-then-not-is_loose_at
returns-then-not-is_loose_at c =
    let f = c.in-App.fun.value in
    let e : c.args.body.value ≡ App f c.in-App.arg.value = rw (← c.deref-b.ensures, ← c.b.view_is, c.in-App.is) refl in
    let own : c.in-App.arg.value ≡ Bound 0 = sym c.deref.ensures ∙ c.is_bound_0.ensures.0 c.if-is_bound_0.true in
    let free : is_loose 0 f ≡ false = rw (← c.deref-then-is_bound_0.ensures) (sym c.is_loose_at.ensures ∙ c.if-not-is_loose_at.true) in
    rw (← contracted-once c.args.typ.now c.args.body.value f c.in-App.arg.value (lower_by 1 0 f) e own free refl) c.lower.ensures
