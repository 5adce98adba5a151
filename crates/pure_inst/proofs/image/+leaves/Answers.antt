use Rattle.std.proofs.Common.{◌≡◌, ◌+◌, max, ap, refl, arith}
use Rattle.pure_definitions.specs.Types.Typ.{typ_size, typ_depth}
use Rattle.pure_definitions.specs.Terms.Term.{Free, term_size, term_depth}
use Rattle.pure_definitions.specs.Terms.Subst.{typ_image, typ_instance}
use Rattle.pure_definitions.proofs.TermLemmas.{term_size-some, term_depth-some}
use Rattle.pure_definitions.proofs.GrownLemmas.{leaves-equal, leaves-abs, leaves-part_none}
use Rattle.pure_definitions.proofs.InstanceLemmas.{term_image-fixed}
use Rattle.pure_logic.specs.Laws.Maps.{instantiated}
use Rattle.pure_inst.proofs.StaysLaws.{instantiated_stays}
use Rattle.pure_inst.proofs.image.+leaves.Goals as goal

pub returns-then-index_above_of-eq0 : goal.returns-then-index_above_of-eq0
returns-then-index_above_of-eq0 t c =
    let stays = instantiated_stays c.args.typs.now c.args.terms.now c.args.t.now (omega arith) in
    leaves-equal c.args.left c.args.room (term_size c.args.t.now) (term_depth c.args.t.now) _ _ c.term_leaves.result (ap term_size stays) (ap term_depth stays) c.term_leaves.ensures

pub returns-then-left-eq0 : goal.returns-then-left-eq0
returns-then-left-eq0 t c = λ h. let some = term_size-some (instantiated c.args.typs.now c.args.terms.now c.args.t.now) in absurd (omega arith)

pub returns-then-room-eq0 : goal.returns-then-room-eq0
returns-then-room-eq0 t c = λ h. let some = term_depth-some (instantiated c.args.typs.now c.args.terms.now c.args.t.now) in omega arith

pub returns-in_default : goal.returns-in_default
returns-in_default t c =
    let size : term_size (instantiated c.args.typs.now c.args.terms.now c.args.t.now) ≡ 1 + (typ_size (typ_instance (typ_image c.args.typs.now) c.in-Abs.typ) + term_size (instantiated c.args.typs.now c.args.terms.now c.in-Abs.body.value)) = rw (← c.t.view_is, c.in-Abs.is) refl in
    let depth : term_depth (instantiated c.args.typs.now c.args.terms.now c.args.t.now) ≡ 1 + max (typ_depth (typ_instance (typ_image c.args.typs.now) c.in-Abs.typ)) (term_depth (instantiated c.args.typs.now c.args.terms.now c.in-Abs.body.value)) = rw (← c.t.view_is, c.in-Abs.is) refl in
    leaves-part_none c.args.left c.args.room _ _ _ _ _ _ size depth c.if-left-eq0.false c.if-room-eq0.false c.in_default.ensures

pub returns-in-Const : goal.returns-in-Const
returns-in-Const t c =
    let size : term_size (instantiated c.args.typs.now c.args.terms.now c.args.t.now) ≡ 1 + typ_size (typ_instance (typ_image c.args.typs.now) c.in-Const.typ) = rw (← c.t.view_is, c.in-Const.is) refl in
    let depth : term_depth (instantiated c.args.typs.now c.args.terms.now c.args.t.now) ≡ 1 + typ_depth (typ_instance (typ_image c.args.typs.now) c.in-Const.typ) = rw (← c.t.view_is, c.in-Const.is) refl in
    leaves-equal c.args.left c.args.room _ _ _ _ c.node_leaves.result size depth c.node_leaves.ensures

pub returns-in-Free : goal.returns-in-Free
returns-in-Free t c =
    let T = typ_instance (typ_image c.args.typs.now) c.in-Free.typ in
    let is : instantiated c.args.typs.now c.args.terms.now c.args.t.now ≡ Free c.in-Free.name T = rw (← c.t.view_is, c.in-Free.is) (term_image-fixed c.args.terms.now c.in-Free.name T) in
    leaves-equal c.args.left c.args.room _ _ _ _ c.node_leaves-in-Free.result (ap term_size is) (ap term_depth is) c.node_leaves-in-Free.ensures

pub returns-in-Some : goal.returns-in-Some
returns-in-Some t c =
    let size : term_size (instantiated c.args.typs.now c.args.terms.now c.args.t.now) ≡ 1 + (typ_size (typ_instance (typ_image c.args.typs.now) c.in-Abs.typ) + term_size (instantiated c.args.typs.now c.args.terms.now c.deref.result.now)) = rw (← c.t.view_is, c.in-Abs.is, c.deref.ensures) refl in
    let depth : term_depth (instantiated c.args.typs.now c.args.terms.now c.args.t.now) ≡ 1 + max (typ_depth (typ_instance (typ_image c.args.typs.now) c.in-Abs.typ)) (term_depth (instantiated c.args.typs.now c.args.terms.now c.deref.result.now)) = rw (← c.t.view_is, c.in-Abs.is, c.deref.ensures) refl in
    leaves-equal c.args.left c.args.room _ _ _ _ c.leaves.result size depth
    (leaves-abs c.args.left c.args.room c.in-Some.rest _ _ _ _ c.leaves.result c.if-left-eq0.false c.if-room-eq0.false c.in-Some.ensures c.leaves.ensures)
