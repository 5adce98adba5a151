use Rattle.std.proofs.Common.{◌≡◌, ◌+◌, max, true, false, refl, zero-add}
use Rattle.pure_definitions.specs.Types.Typ.{typ_size, typ_depth}
use Rattle.pure_definitions.specs.Terms.Term.{Const, Free, Var, Bound, App, term_size, term_depth}
use Rattle.pure_eta.specs.LongTerm.{front_typ, long_term}
use Rattle.pure_eta.specs.Fits.{added_at}
use Rattle.pure_term.specs.Scope.{scope_typs}
use Rattle.pure_eta.proofs.FitsLaws.{leaf-fits, front-fits, front-stops, both-fit, first-stops, second-stops}
use Rattle.pure_eta.proofs.fits.+long_fits.Goals as goal

pub returns-in-Const : goal.returns-in-Const
returns-in-Const t c =
    let bs = scope_typs c.args.scope.now in
    let e : c.args.t.now ≡ Const c.in-Const.name c.in-Const.typ = rw (← c.t.view_is, c.in-Const.is) refl in
    leaf-fits c.args.is_applied (front_typ bs c.args.t.now) c.args.t.now (long_term c.args.is_applied bs c.args.t.now) c.args.left (typ_size c.in-Const.typ) (typ_depth c.in-Const.typ) c.leaf_fits.result
    (rw e refl) (rw e refl) (rw e refl) c.leaf_fits.ensures

pub returns-in-Free : goal.returns-in-Free
returns-in-Free t c =
    let bs = scope_typs c.args.scope.now in
    let e : c.args.t.now ≡ Free c.in-Free.name c.in-Free.typ = rw (← c.t.view_is, c.in-Free.is) refl in
    leaf-fits c.args.is_applied (front_typ bs c.args.t.now) c.args.t.now (long_term c.args.is_applied bs c.args.t.now) c.args.left (typ_size c.in-Free.typ) (typ_depth c.in-Free.typ) c.leaf_fits-in-Free.result
    (rw e refl) (rw e refl) (rw e refl) c.leaf_fits-in-Free.ensures

pub returns-in-Var : goal.returns-in-Var
returns-in-Var t c =
    let bs = scope_typs c.args.scope.now in
    let e : c.args.t.now ≡ Var c.in-Var.name c.in-Var.index c.in-Var.typ = rw (← c.t.view_is, c.in-Var.is) refl in
    leaf-fits c.args.is_applied (front_typ bs c.args.t.now) c.args.t.now (long_term c.args.is_applied bs c.args.t.now) c.args.left (typ_size c.in-Var.typ) (typ_depth c.in-Var.typ) c.leaf_fits-in-Var.result
    (rw e refl) (rw e refl) (rw e refl) c.leaf_fits-in-Var.ensures

pub returns-in-Bound : goal.returns-in-Bound
returns-in-Bound t c =
    let bs = scope_typs c.args.scope.now in
    let e : c.args.t.now ≡ Bound c.in-Bound.place = rw (← c.t.view_is, c.in-Bound.is) refl in
    leaf-fits c.args.is_applied (front_typ bs c.args.t.now) c.args.t.now (long_term c.args.is_applied bs c.args.t.now) c.args.left 0 0 c.front_fits.result
    (rw e refl) (rw e refl) (rw e refl) (rw (zero-add (added_at c.args.is_applied (front_typ bs c.args.t.now))) c.front_fits.ensures)

pub returns-in_default-long_fits-2 : goal.returns-in_default-long_fits-2
returns-in_default-long_fits-2 t c =
    let bs = scope_typs c.args.scope.now in
    let f = long_term true bs c.in-App.fun.value in
    let a = long_term false bs c.in-App.arg.value in
    let e : c.args.t.now ≡ App c.in-App.fun.value c.in-App.arg.value = rw (← c.t.view_is, c.in-App.is) refl in
    front-stops c.args.is_applied (front_typ bs c.args.t.now) (App f a) (long_term c.args.is_applied bs c.args.t.now) c.args.left (term_size f + term_size a) (max (term_depth f) (term_depth a))
    (rw e refl) refl refl (first-stops c.args.left (term_size f) (term_depth f) (term_size a) (term_depth a) (rw c.deref-in-App.ensures at c.in_default-long_fits-2.ensures))

pub returns-in_default-long_fits-3 : goal.returns-in_default-long_fits-3
returns-in_default-long_fits-3 t c =
    let bs = scope_typs c.args.scope.now in
    let f = long_term true bs c.in-App.fun.value in
    let a = long_term false bs c.in-App.arg.value in
    let e : c.args.t.now ≡ App c.in-App.fun.value c.in-App.arg.value = rw (← c.t.view_is, c.in-App.is) refl in
    front-stops c.args.is_applied (front_typ bs c.args.t.now) (App f a) (long_term c.args.is_applied bs c.args.t.now) c.args.left (term_size f + term_size a) (max (term_depth f) (term_depth a))
    (rw e refl) refl refl
    (second-stops c.args.left (term_size f) (term_depth f) c.in-Some-long_fits-2.function (term_size a) (term_depth a) (rw c.deref-in-App.ensures at c.in-Some-long_fits-2.ensures)
    (rw c.deref-in-App-2.ensures at c.in_default-long_fits-3.ensures))

pub returns-in-Some-long_fits-3 : goal.returns-in-Some-long_fits-3
returns-in-Some-long_fits-3 t c =
    let bs = scope_typs c.args.scope.now in
    let f = long_term true bs c.in-App.fun.value in
    let a = long_term false bs c.in-App.arg.value in
    let e : c.args.t.now ≡ App c.in-App.fun.value c.in-App.arg.value = rw (← c.t.view_is, c.in-App.is) refl in
    front-fits c.args.is_applied (front_typ bs c.args.t.now) (App f a) (long_term c.args.is_applied bs c.args.t.now) c.args.left (term_size f + term_size a) (max (term_depth f) (term_depth a))
    (record { left = c.in-Some-long_fits-3.argument.left; depth = max c.in-Some-long_fits-2.function.depth c.in-Some-long_fits-3.argument.depth }) c.front_fits-in-App.result
    (rw e refl) refl refl
    (both-fit c.args.left (term_size f) (term_depth f) c.in-Some-long_fits-2.function c.in-Some-long_fits-3.argument (term_size a) (term_depth a) (rw c.deref-in-App.ensures at c.in-Some-long_fits-2.ensures)
    (rw c.deref-in-App-2.ensures at c.in-Some-long_fits-3.ensures))
    (rw c.max-inside.ensures at c.front_fits-in-App.ensures)
