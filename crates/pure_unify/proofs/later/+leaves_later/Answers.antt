use Rattle.std.proofs.Common.{◌≡◌, refl, ap, arith}
use Rattle.pure_definitions.specs.Terms.Term.{Const, Free, Bound, Abs, App, term_size, term_depth}
use Rattle.pure_definitions.specs.Terms.Measures.{term_index_above}
use Rattle.pure_definitions.specs.Terms.Subst.{typ_image}
use Rattle.pure_definitions.proofs.TermLemmas.{term_size-some, term_depth-some}
use Rattle.pure_definitions.proofs.GrownLemmas.{leaves-equal, leaves-abs, leaves-node, leaves-part_none}
use Rattle.pure_unify.specs.Later.{term_later}
use Rattle.pure_unify.proofs.LaterLaws.{is_const, is_free, is_bound, is_abs, is_app, later-stays}
use Rattle.pure_unify.proofs.later.+leaves_later.Goals as goal

pub returns-then-index_above_of-eq0 : goal.returns-then-index_above_of-eq0
returns-then-index_above_of-eq0 t c =
    let ground : term_index_above c.args.t.now ≡ 0 = omega arith in
    let stays = later-stays c.args.settings.now c.args.t.now ground in
    leaves-equal c.args.left c.args.room (term_size c.args.t.now) (term_depth c.args.t.now) _ _ c.term_leaves.result (ap term_size stays) (ap term_depth stays) c.term_leaves.ensures

pub returns-then-left-eq0 : goal.returns-then-left-eq0
returns-then-left-eq0 t c = λ h. let some = term_size-some (term_later c.args.settings.now c.args.t.now) in absurd (omega arith)

pub returns-then-room-eq0 : goal.returns-then-room-eq0
returns-then-room-eq0 t c = λ h. let some = term_depth-some (term_later c.args.settings.now c.args.t.now) in omega arith

pub returns-in_default : goal.returns-in_default
returns-in_default t c =
    let is : c.args.t.now ≡ Abs c.in-Abs.typ c.in-Abs.body.value = rw (← c.t.view_is, c.in-Abs.is) refl in
    let later = is_abs c.args.settings.now (typ_image c.args.typs.now) c.requires.typs c.args.t.now c.in-Abs.typ c.in-Abs.body.value is in
    leaves-part_none c.args.left c.args.room _ _ _ _ _ _ (ap term_size later) (ap term_depth later) c.if-left-eq0.false c.if-room-eq0.false c.in_default.ensures

pub returns-in_default-leaves_later : goal.returns-in_default-leaves_later
returns-in_default-leaves_later t c =
    let is : c.args.t.now ≡ App c.in-App.fun.value c.in-App.arg.value = rw (← c.t.view_is, c.in-App.is) refl in
    let later = is_app c.args.settings.now (typ_image c.args.typs.now) c.requires.typs c.args.t.now c.in-App.fun.value c.in-App.arg.value is in
    leaves-part_none c.args.left c.args.room _ _ _ _ _ _ (ap term_size later) (ap term_depth later) c.if-left-eq0.false c.if-room-eq0.false
    (rw (← c.deref-in-App.ensures) c.in_default-leaves_later.ensures)

pub returns-in-Const : goal.returns-in-Const
returns-in-Const t c =
    let is : c.args.t.now ≡ Const c.in-Const.name c.in-Const.typ = rw (← c.t.view_is, c.in-Const.is) refl in
    let later = is_const c.args.settings.now (typ_image c.args.typs.now) c.requires.typs c.args.t.now c.in-Const.name c.in-Const.typ is in
    leaves-node c.args.left c.args.room _ _ _ _ c.instance_leaves.result (ap term_size later) (ap term_depth later) c.if-left-eq0.false c.if-room-eq0.false c.instance_leaves.ensures

pub returns-in-Free : goal.returns-in-Free
returns-in-Free t c =
    let is : c.args.t.now ≡ Free c.in-Free.name c.in-Free.typ = rw (← c.t.view_is, c.in-Free.is) refl in
    let later = is_free c.args.settings.now (typ_image c.args.typs.now) c.requires.typs c.args.t.now c.in-Free.name c.in-Free.typ is in
    leaves-node c.args.left c.args.room _ _ _ _ c.instance_leaves-in-Free.result (ap term_size later) (ap term_depth later) c.if-left-eq0.false c.if-room-eq0.false c.instance_leaves-in-Free.ensures

pub returns-in-Bound : goal.returns-in-Bound
returns-in-Bound t c =
    let is : c.args.t.now ≡ Bound c.in-Bound.place = rw (← c.t.view_is, c.in-Bound.is) refl in
    let later = is_bound c.args.settings.now (typ_image c.args.typs.now) c.requires.typs c.args.t.now c.in-Bound.place is in
    let size : term_size (term_later c.args.settings.now c.args.t.now) ≡ 1 = ap term_size later in
    let depth : term_depth (term_later c.args.settings.now c.args.t.now) ≡ 1 = ap term_depth later in
    let some = c.if-left-eq0.false in
    let room = c.if-room-eq0.false in
    (omega arith, omega arith)

pub returns-in-Some-instance_leaves : goal.returns-in-Some-instance_leaves
returns-in-Some-instance_leaves t c =
    let is : c.args.t.now ≡ Abs c.in-Abs.typ c.deref.result.now = rw (← c.t.view_is, c.in-Abs.is, c.deref.ensures) refl in
    let later = is_abs c.args.settings.now (typ_image c.args.typs.now) c.requires.typs c.args.t.now c.in-Abs.typ c.deref.result.now is in
    leaves-equal c.args.left c.args.room _ _ _ _ c.leaves_later.result (ap term_size later) (ap term_depth later)
    (leaves-abs c.args.left c.args.room c.in-Some-instance_leaves.rest _ _ _ _ c.leaves_later.result c.if-left-eq0.false c.if-room-eq0.false c.in-Some-instance_leaves.ensures c.leaves_later.ensures)

pub returns-in-Some-leaves_later : goal.returns-in-Some-leaves_later
returns-in-Some-leaves_later t c =
    let is : c.args.t.now ≡ App c.deref-in-App.result.now c.deref-in-App-2.result.now = rw (← c.t.view_is, c.in-App.is, c.deref-in-App.ensures, c.deref-in-App-2.ensures) refl in
    let later = is_app c.args.settings.now (typ_image c.args.typs.now) c.requires.typs c.args.t.now c.deref-in-App.result.now c.deref-in-App-2.result.now is in
    leaves-equal c.args.left c.args.room _ _ _ _ c.leaves_later-in-App-2.result (ap term_size later) (ap term_depth later)
    (leaves-abs c.args.left c.args.room c.in-Some-leaves_later.rest _ _ _ _ c.leaves_later-in-App-2.result c.if-left-eq0.false c.if-room-eq0.false c.in-Some-leaves_later.ensures c.leaves_later-in-App-2.ensures)
