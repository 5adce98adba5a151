use Rattle.std.proofs.Common.{◌≡◌, arith}
use Rattle.std.proofs.lemmas.List.{take_all}
use Rattle.pure_definitions.specs.Terms.Subst.{typ_image, typ_instance}
use Rattle.pure_definitions.proofs.InstanceLemmas.{typ_image-fixed, typs_instance-of, images-more}
use Rattle.pure_definitions.proofs.MeasureLemmas.{typ_stays}
use Rattle.pure_typ.proofs.instance.+instance_of.Goals as goal

pub loop-arg-preserved : goal.loop-arg-preserved
loop-arg-preserved t c =
    images-more (typ_image c.args.binds.now) c.as_slice-args.result.now c.loop-arg.images.items c.push.new.self.items c.loop-arg.arg-index c.arg-item.result c.in_ok-instance_of-in-Con.field-0
    c.loop-arg.invariant c.in_ok-push-in-Con.ensures.items c.in_ok-instance_of-in-Con.ensures c.loop-arg-test.true c.arg-item.is

pub returns-in-TFree : goal.returns-in-TFree
returns-in-TFree t c =
    let fixed : typ_instance (typ_image c.args.binds.now) c.args.t.now ≡ c.args.t.now = rw (← c.t.view_is, c.in-TFree.is) (typ_image-fixed c.args.binds.now c.in-TFree.name c.in-TFree.sort) in
    rw fixed c.copy-in-TFree.ensures

pub returns-after-loop-arg : goal.returns-after-loop-arg
returns-after-loop-arg t c =
    let all = take_all c.loop-arg.arg-index c.as_slice-args.result.now c.loop-arg-test.false in
    let images = rw all at c.loop-arg.invariant in
    rw (← c.t.view_is, c.in-Con.is, ← c.as_slice-args.ensures, typs_instance-of (typ_image c.args.binds.now) c.as_slice-args.result.now, ← images) c.constructed.ensures

pub returns-then-index_above_of_typ-eq0 : goal.returns-then-index_above_of_typ-eq0
returns-then-index_above_of_typ-eq0 t c = rw (typ_stays (typ_image c.args.binds.now) (typ_image-fixed c.args.binds.now) c.args.t.now (omega arith)) c.copy.ensures
