use Rattle.std.proofs.Common.{◌≡◌, ◌+◌, max, ap, refl, arith}
use Rattle.pure_definitions.specs.Types.Typ.{typ_size, typ_depth}
use Rattle.pure_definitions.specs.Terms.Term.{term_size, term_depth}
use Rattle.pure_definitions.specs.Terms.Subst.{typ_image, typ_instance, inst_typ}
use Rattle.pure_definitions.proofs.TermLemmas.{term_size-some, term_depth-some}
use Rattle.pure_definitions.proofs.GrownLemmas.{leaves-equal, leaves-abs, leaves-node, leaves-part_none}
use Rattle.pure_term.proofs.StaysLemmas.{inst_typ_stays}
use Rattle.pure_term.proofs.instance.+inst_typ_leaves.Goals as goal

pub returns-then-left-eq0 : goal.returns-then-left-eq0
returns-then-left-eq0 t c = λ h. let some = term_size-some (inst_typ (typ_image c.args.binds.now) c.args.t.now) in absurd (omega arith)

pub returns-then-room-eq0 : goal.returns-then-room-eq0
returns-then-room-eq0 t c = λ h. let some = term_depth-some (inst_typ (typ_image c.args.binds.now) c.args.t.now) in omega arith

pub returns-in_default : goal.returns-in_default
returns-in_default t c =
    let size : term_size (inst_typ (typ_image c.args.binds.now) c.args.t.now) ≡ 1 + (typ_size (typ_instance (typ_image c.args.binds.now) c.in-Abs.typ) + term_size (inst_typ (typ_image c.args.binds.now) c.in-Abs.body.value)) = rw (← c.t.view_is, c.in-Abs.is) refl in
    let depth : term_depth (inst_typ (typ_image c.args.binds.now) c.args.t.now) ≡ 1 + max (typ_depth (typ_instance (typ_image c.args.binds.now) c.in-Abs.typ)) (term_depth (inst_typ (typ_image c.args.binds.now) c.in-Abs.body.value)) = rw (← c.t.view_is, c.in-Abs.is) refl in
    leaves-part_none c.args.left c.args.room _ _ _ _ _ _ size depth c.if-left-eq0.false c.if-room-eq0.false c.in_default.ensures

pub returns-in-Const : goal.returns-in-Const
returns-in-Const t c =
    let size : term_size (inst_typ (typ_image c.args.binds.now) c.args.t.now) ≡ 1 + typ_size (typ_instance (typ_image c.args.binds.now) c.in-Const.typ) = rw (← c.t.view_is, c.in-Const.is) refl in
    let depth : term_depth (inst_typ (typ_image c.args.binds.now) c.args.t.now) ≡ 1 + typ_depth (typ_instance (typ_image c.args.binds.now) c.in-Const.typ) = rw (← c.t.view_is, c.in-Const.is) refl in
    leaves-node c.args.left c.args.room _ _ _ _ c.instance_leaves.result size depth c.if-left-eq0.false c.if-room-eq0.false c.instance_leaves.ensures

pub returns-in-Free : goal.returns-in-Free
returns-in-Free t c =
    let size : term_size (inst_typ (typ_image c.args.binds.now) c.args.t.now) ≡ 1 + typ_size (typ_instance (typ_image c.args.binds.now) c.in-Free.typ) = rw (← c.t.view_is, c.in-Free.is) refl in
    let depth : term_depth (inst_typ (typ_image c.args.binds.now) c.args.t.now) ≡ 1 + typ_depth (typ_instance (typ_image c.args.binds.now) c.in-Free.typ) = rw (← c.t.view_is, c.in-Free.is) refl in
    leaves-node c.args.left c.args.room _ _ _ _ c.instance_leaves-in-Free.result size depth c.if-left-eq0.false c.if-room-eq0.false c.instance_leaves-in-Free.ensures

pub returns-in-Var : goal.returns-in-Var
returns-in-Var t c =
    let size : term_size (inst_typ (typ_image c.args.binds.now) c.args.t.now) ≡ 1 + typ_size (typ_instance (typ_image c.args.binds.now) c.in-Var.typ) = rw (← c.t.view_is, c.in-Var.is) refl in
    let depth : term_depth (inst_typ (typ_image c.args.binds.now) c.args.t.now) ≡ 1 + typ_depth (typ_instance (typ_image c.args.binds.now) c.in-Var.typ) = rw (← c.t.view_is, c.in-Var.is) refl in
    leaves-node c.args.left c.args.room _ _ _ _ c.instance_leaves-in-Var.result size depth c.if-left-eq0.false c.if-room-eq0.false c.instance_leaves-in-Var.ensures

pub returns-in-Some : goal.returns-in-Some
returns-in-Some t c =
    let size : term_size (inst_typ (typ_image c.args.binds.now) c.args.t.now) ≡ 1 + (typ_size (typ_instance (typ_image c.args.binds.now) c.in-Abs.typ) + term_size (inst_typ (typ_image c.args.binds.now) c.deref.result.now)) = rw (← c.t.view_is, c.in-Abs.is, c.deref.ensures) refl in
    let depth : term_depth (inst_typ (typ_image c.args.binds.now) c.args.t.now) ≡ 1 + max (typ_depth (typ_instance (typ_image c.args.binds.now) c.in-Abs.typ)) (term_depth (inst_typ (typ_image c.args.binds.now) c.deref.result.now)) = rw (← c.t.view_is, c.in-Abs.is, c.deref.ensures) refl in
    leaves-equal c.args.left c.args.room _ _ _ _ c.inst_typ_leaves.result size depth
    (leaves-abs c.args.left c.args.room c.in-Some.rest _ _ _ _ c.inst_typ_leaves.result c.if-left-eq0.false c.if-room-eq0.false c.in-Some.ensures c.inst_typ_leaves.ensures)

pub returns-then-index_above_of-eq0 : goal.returns-then-index_above_of-eq0
returns-then-index_above_of-eq0 t c =
    let stays = inst_typ_stays c.args.binds.now c.args.t.now (omega arith) in
    leaves-equal c.args.left c.args.room (term_size c.args.t.now) (term_depth c.args.t.now) _ _ c.term_leaves.result (ap term_size stays) (ap term_depth stays) c.term_leaves.ensures
