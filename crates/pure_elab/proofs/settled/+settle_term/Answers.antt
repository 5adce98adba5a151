use Rattle.std.proofs.Common.{◌≡◌, ◌-◌, Some, None, refl, sym, ap, subst, ◌∙◌, arith}
use Rattle.std.proofs.lemmas.Result.{IfOk-weaker}
use Rattle.pure_definitions.specs.Terms.Term.{Term, Const, Free, Var, Abs, App}
use Rattle.pure_definitions.specs.Terms.Subst.{inst_typ}
use Rattle.pure_definitions.specs.Terms.Measures.{term_index_above}
use Rattle.pure_definitions.proofs.TermLemmas.{term_size-some, term_depth-some}
use Rattle.pure_tunify.specs.Settings.{composed}
use Rattle.pure_tunify.specs.Working.{IsResolved}
use Rattle.pure_elab.specs.PutIn.{IsPutIn}
use Rattle.pure_elab.proofs.PutInLaws.{stay_put, const_put, free_put, var_put, abs_put, abs_none, app_put, app_none}
use Rattle.pure_elab.proofs.settled.+settle_term.Goals as goal

pub returns-then-index_above_of-eq0 : goal.returns-then-index_above_of-eq0
returns-then-index_above_of-eq0 t c =
    let bare = ap term_index_above (sym c.deref-whole.ensures) ∙ sym c.index_above_of.ensures ∙ c.if-index_above_of-eq0.true in
    IfOk-weaker c.stays.result _ (IsPutIn (inst_typ (composed c.args.settings.now.sets) c.args.t.now.value) c.args.left c.args.room) (λ o h. stay_put c.args.settings.now.sets c.args.t.now.value c.args.left c.args.room o bare h) c.stays.ensures

pub returns-then-left-eq0 : goal.returns-then-left-eq0
returns-then-left-eq0 t c = λ h. let some = term_size-some (inst_typ (composed c.args.settings.now.sets) c.args.t.now.value) in absurd (omega arith)

pub returns-then-room-eq0 : goal.returns-then-room-eq0
returns-then-room-eq0 t c = λ h. let some = term_depth-some (inst_typ (composed c.args.settings.now.sets) c.args.t.now.value) in omega arith

pub returns-in-Const : goal.returns-in-Const
returns-in-Const t c =
    let is : Const c.in-Const.name c.in-Const.typ ≡ c.args.t.now.value = rw (← c.deref-whole.ensures, ← c.whole.view_is, c.in-Const.is) refl in
    IfOk-weaker c.settle_constant.result _ (IsPutIn (inst_typ (composed c.args.settings.now.sets) c.args.t.now.value) c.args.left c.args.room)
    (λ o h. subst (λ (u : Term). IsPutIn (inst_typ (composed c.args.settings.now.sets) u) c.args.left c.args.room o) is (const_put (composed c.args.settings.now.sets) c.args.left c.args.room c.if-left-eq0.false c.if-room-eq0.false c.in-Const.name c.in-Const.typ o h)) c.settle_constant.ensures

pub returns-in-Free : goal.returns-in-Free
returns-in-Free t c =
    let is : Free c.in-Free.name c.in-Free.typ ≡ c.args.t.now.value = rw (← c.deref-whole.ensures, ← c.whole.view_is, c.in-Free.is) refl in
    IfOk-weaker c.settle_fixed.result _ (IsPutIn (inst_typ (composed c.args.settings.now.sets) c.args.t.now.value) c.args.left c.args.room)
    (λ o h. subst (λ (u : Term). IsPutIn (inst_typ (composed c.args.settings.now.sets) u) c.args.left c.args.room o) is (free_put (composed c.args.settings.now.sets) c.args.left c.args.room c.if-left-eq0.false c.if-room-eq0.false c.in-Free.name c.in-Free.typ o h)) c.settle_fixed.ensures

pub returns-in-Var : goal.returns-in-Var
returns-in-Var t c =
    let is : Var c.in-Var.name c.in-Var.index c.in-Var.typ ≡ c.args.t.now.value = rw (← c.deref-whole.ensures, ← c.whole.view_is, c.in-Var.is) refl in
    IfOk-weaker c.settle_schematic.result _ (IsPutIn (inst_typ (composed c.args.settings.now.sets) c.args.t.now.value) c.args.left c.args.room)
    (λ o h. subst (λ (u : Term). IsPutIn (inst_typ (composed c.args.settings.now.sets) u) c.args.left c.args.room o) is (var_put (composed c.args.settings.now.sets) c.args.left c.args.room c.if-left-eq0.false c.if-room-eq0.false c.in-Var.name c.in-Var.index c.in-Var.typ o h)) c.settle_schematic.ensures

pub returns-in_ok-body-in-Abs : goal.returns-in_ok-body-in-Abs
returns-in_ok-body-in-Abs t c =
    let sets = c.args.settings.now.sets in
    let domain : IsResolved sets c.in-Abs.typ (c.args.left - 1) (c.args.room - 1) (Some c.in-Some.image) = rw c.in-Some.is at c.in_ok-domain-in-Abs.ensures in
    let is : Abs c.in-Abs.typ c.in-Abs.body.value ≡ c.args.t.now.value = rw (← c.deref-whole.ensures, ← c.whole.view_is, c.in-Abs.is) refl in
    IfOk-weaker c.settled_abstraction.result _ (IsPutIn (inst_typ (composed sets) c.args.t.now.value) c.args.left c.args.room)
    (λ o h. subst (λ (u : Term). IsPutIn (inst_typ (composed sets) u) c.args.left c.args.room o) is (abs_put (composed sets) c.args.left c.args.room c.if-left-eq0.false c.if-room-eq0.false c.in-Abs.typ c.in-Some.image.typ c.in-Abs.body.value c.in-Some.image.left c.in_ok-body-in-Abs.body o domain.0 domain.1
    c.in_ok-body-in-Abs.ensures h)) c.settled_abstraction.ensures

pub returns-in_ok-argument-in-App : goal.returns-in_ok-argument-in-App
returns-in_ok-argument-in-App t c =
    let sets = c.args.settings.now.sets in
    let front : IsPutIn (inst_typ (composed sets) c.in-App.fun.value) (c.args.left - 1) (c.args.room - 1) (Some c.in-Some-function.front) = rw c.in-Some-function.is at c.in_ok-function-in-App.ensures in
    let is : App c.in-App.fun.value c.in-App.arg.value ≡ c.args.t.now.value = rw (← c.deref-whole.ensures, ← c.whole.view_is, c.in-App.is) refl in
    IfOk-weaker c.settled_application.result _ (IsPutIn (inst_typ (composed sets) c.args.t.now.value) c.args.left c.args.room)
    (λ o h. subst (λ (u : Term). IsPutIn (inst_typ (composed sets) u) c.args.left c.args.room o) is (app_put (composed sets) c.args.left c.args.room c.if-left-eq0.false c.if-room-eq0.false c.in-App.fun.value c.in-App.arg.value c.in-Some-function.front c.in_ok-argument-in-App.argument o front
    c.in_ok-argument-in-App.ensures h)) c.settled_application.ensures

pub returns-in_default : goal.returns-in_default
returns-in_default t c =
    let sets = c.args.settings.now.sets in
    let stops : IsResolved sets c.in-Abs.typ (c.args.left - 1) (c.args.room - 1) None = rw c.in_default.is at c.in_ok-domain-in-Abs.ensures in
    rw (← c.deref-whole.ensures, ← c.whole.view_is, c.in-Abs.is) (abs_none (composed sets) c.args.left c.args.room c.if-left-eq0.false c.if-room-eq0.false c.in-Abs.typ c.in-Abs.body.value stops)

pub returns-in_default-function : goal.returns-in_default-function
returns-in_default-function t c =
    let sets = c.args.settings.now.sets in
    let stops : IsPutIn (inst_typ (composed sets) c.in-App.fun.value) (c.args.left - 1) (c.args.room - 1) None = rw c.in_default-function.is at c.in_ok-function-in-App.ensures in
    rw (← c.deref-whole.ensures, ← c.whole.view_is, c.in-App.is) (app_none (composed sets) c.args.left c.args.room c.if-left-eq0.false c.if-room-eq0.false c.in-App.fun.value c.in-App.arg.value stops)
