use Rattle.std.proofs.Common.{◌≡◌, refl, ap, sym, ◌∙◌, arith}
use Rattle.pure_definitions.specs.Terms.Term.{Const, Free, Var, Bound, Abs, App}
use Rattle.pure_definitions.specs.Terms.Measures.{term_index_above}
use Rattle.pure_definitions.specs.Terms.Subst.{typ_image}
use Rattle.pure_unify.specs.Later.{term_later}
use Rattle.pure_unify.proofs.LaterLaws.{is_const, is_free, is_bound, is_abs, is_app, later-stays}
use Rattle.pure_unify.proofs.later.+made_later.Goals as goal

pub returns-then-index_above_of-eq0 : goal.returns-then-index_above_of-eq0
returns-then-index_above_of-eq0 t c =
    let ground : term_index_above c.args.t.now.value ≡ 0 = rw (← c.deref-whole.ensures) (omega arith) in
    rw (later-stays c.args.settings.now c.args.t.now.value ground) c.try_clone.ensures

pub returns-in_ok-new-in-Const : goal.returns-in_ok-new-in-Const
returns-in_ok-new-in-Const t c =
    let is : c.args.t.now.value ≡ Const c.in-Const.name c.in-Const.typ = rw (← c.deref-whole.ensures, ← c.whole.view_is, c.in-Const.is) refl in
    c.in_ok-new-in-Const.ensures.ok ∙ (ap (Const c.in-Const.name) c.in_ok-typ-in-Const.ensures ∙ sym (is_const c.args.settings.now (typ_image c.args.typs.now) c.requires.typs c.args.t.now.value c.in-Const.name c.in-Const.typ is))

pub returns-in_ok-new-in-Free : goal.returns-in_ok-new-in-Free
returns-in_ok-new-in-Free t c =
    let is : c.args.t.now.value ≡ Free c.in-Free.name c.in-Free.typ = rw (← c.deref-whole.ensures, ← c.whole.view_is, c.in-Free.is) refl in
    c.in_ok-new-in-Free.ensures.ok ∙ (ap (Free c.in-Free.name) c.in_ok-typ-in-Free.ensures ∙ sym (is_free c.args.settings.now (typ_image c.args.typs.now) c.requires.typs c.args.t.now.value c.in-Free.name c.in-Free.typ is))

pub returns-in_ok-new-in-Var : goal.returns-in_ok-new-in-Var
returns-in_ok-new-in-Var t c =
    let is : c.args.t.now.value ≡ Var c.in-Var.name c.in-Var.index c.in-Var.typ = rw (← c.deref-whole.ensures, ← c.whole.view_is, c.in-Var.is) refl in
    c.in_ok-new-in-Var.ensures.ok ∙ (c.in_ok-made-in-Var.ensures ∙ ap (term_later c.args.settings.now) (sym is))

pub returns-in-Bound : goal.returns-in-Bound
returns-in-Bound t c =
    let is : c.args.t.now.value ≡ Bound c.in-Bound.place = rw (← c.deref-whole.ensures, ← c.whole.view_is, c.in-Bound.is) refl in
    let stays : term_later c.args.settings.now c.args.t.now.value ≡ c.args.t.now.value = is_bound c.args.settings.now (typ_image c.args.typs.now) c.requires.typs c.args.t.now.value c.in-Bound.place is ∙ sym is in
    rw stays c.try_clone-in-Bound.ensures

pub returns-in_ok-new-in-Abs : goal.returns-in_ok-new-in-Abs
returns-in_ok-new-in-Abs t c =
    let is : c.args.t.now.value ≡ Abs c.in-Abs.typ c.in-Abs.body.value = rw (← c.deref-whole.ensures, ← c.whole.view_is, c.in-Abs.is) refl in
    c.in_ok-new-in-Abs.ensures.ok ∙ (c.abs.ensures ∙ ((λ l. Abs (c.in_ok-typ-in-Abs.ensures l) (c.in_ok-body-in-Abs.ensures l))
    ∙ sym (is_abs c.args.settings.now (typ_image c.args.typs.now) c.requires.typs c.args.t.now.value c.in-Abs.typ c.in-Abs.body.value is)))

pub returns-in_ok-new-in-App : goal.returns-in_ok-new-in-App
returns-in_ok-new-in-App t c =
    let is : c.args.t.now.value ≡ App c.in-App.fun.value c.in-App.arg.value = rw (← c.deref-whole.ensures, ← c.whole.view_is, c.in-App.is) refl in
    c.in_ok-new-in-App.ensures.ok ∙ (c.app.ensures ∙ ((λ l. App (c.in_ok-fun-in-App.ensures l) (c.in_ok-arg-in-App.ensures l))
    ∙ sym (is_app c.args.settings.now (typ_image c.args.typs.now) c.requires.typs c.args.t.now.value c.in-App.fun.value c.in-App.arg.value is)))
