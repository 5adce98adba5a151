use Rattle.std.proofs.Common.{◌≡◌, ap, arith}
use Rattle.pure_definitions.specs.Types.Typ.{typ_size, typ_depth}
use Rattle.pure_definitions.specs.Terms.Subst.{typ_image, typ_instance}
use Rattle.pure_definitions.proofs.GrownLemmas.{leaves-equal}
use Rattle.pure_definitions.proofs.InstanceLemmas.{typ_image-fixed, instance-stops, instance-goes_on, instance-all}
use Rattle.pure_definitions.proofs.MeasureLemmas.{typ_stays}
use Rattle.pure_tunify.proofs.settings.+leaves_of.Goals as goal

pub returns-in_default : goal.returns-in_default
returns-in_default t c =
    rw (← c.t.view_is, c.in-Con.is, ← c.as_slice-args.ensures)
    (instance-stops (typ_image c.args.stored.now) c.as_slice-args.result.now c.args.left c.args.room c.loop-arg.arg-index c.loop-arg.rest c.arg-item.result c.loop-arg.invariant c.loop-arg-test.true c.arg-item.is c.in_default.ensures)

pub loop-arg-preserved : goal.loop-arg-preserved
loop-arg-preserved t c =
    instance-goes_on (typ_image c.args.stored.now) c.as_slice-args.result.now c.args.left c.args.room c.loop-arg.arg-index c.loop-arg.rest c.in-Some-leaves_of.less c.arg-item.result c.loop-arg.invariant c.loop-arg-test.true c.arg-item.is c.in-Some-leaves_of.ensures

pub returns-in-TFree : goal.returns-in-TFree
returns-in-TFree t c =
    let fixed : typ_instance (typ_image c.args.stored.now) c.args.t.now ≡ c.args.t.now = rw (← c.t.view_is, c.in-TFree.is) (typ_image-fixed c.args.stored.now c.in-TFree.name c.in-TFree.sort) in
    leaves-equal c.args.left c.args.room (typ_size c.args.t.now) (typ_depth c.args.t.now) _ _ c.typ_leaves-in-TFree.result (ap typ_size fixed) (ap typ_depth fixed) c.typ_leaves-in-TFree.ensures

pub returns-after-loop-arg : goal.returns-after-loop-arg
returns-after-loop-arg t c =
    rw (← c.t.view_is, c.in-Con.is, ← c.as_slice-args.ensures)
    (instance-all (typ_image c.args.stored.now) c.as_slice-args.result.now c.args.left c.args.room c.loop-arg.arg-index c.loop-arg.rest c.loop-arg.invariant c.loop-arg-test.false)

pub returns-then-index_above_of_typ-eq0 : goal.returns-then-index_above_of_typ-eq0
returns-then-index_above_of_typ-eq0 t c =
    let stays = typ_stays (typ_image c.args.stored.now) (typ_image-fixed c.args.stored.now) c.args.t.now (omega arith) in
    leaves-equal c.args.left c.args.room (typ_size c.args.t.now) (typ_depth c.args.t.now) _ _ c.typ_leaves.result (ap typ_size stays) (ap typ_depth stays) c.typ_leaves.ensures
