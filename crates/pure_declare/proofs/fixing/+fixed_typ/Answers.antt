use Rattle.std.proofs.Common.{refl, arith}
use Rattle.std.proofs.lemmas.List.{take_all}
use Rattle.pure_definitions.proofs.InstanceLemmas.{typs_instance-of, images-more}
use Rattle.pure_definitions.proofs.MeasureLemmas.{typ_stays}
use Rattle.pure_declare.specs.Fixing.{fixed_typ_variable}
use Rattle.pure_declare.proofs.fixing.+fixed_typ.Goals as goal

pub returns-then-index_above_of_typ-eq0 : goal.returns-then-index_above_of_typ-eq0
returns-then-index_above_of_typ-eq0 t c = rw (typ_stays fixed_typ_variable (λ x s. refl) c.args.t.now (omega arith)) c.copy.ensures

pub returns-in-TFree : goal.returns-in-TFree
returns-in-TFree t c = rw (← c.t.view_is, c.in-TFree.is) (rw (← c.t.view_is, c.in-TFree.is) at c.copy-in-TFree.ensures)

pub loop-arg-preserved : goal.loop-arg-preserved
loop-arg-preserved t c =
    images-more fixed_typ_variable c.as_slice-args.result.now c.loop-arg.images.items c.push.new.self.items c.loop-arg.arg-index c.arg-item.result c.in_ok-fixed_typ-in-Con.field-0
    c.loop-arg.invariant c.in_ok-push-in-Con.ensures.items c.in_ok-fixed_typ-in-Con.ensures c.loop-arg-test.true c.arg-item.is

pub returns-after-loop-arg : goal.returns-after-loop-arg
returns-after-loop-arg t c =
    let all = take_all c.loop-arg.arg-index c.as_slice-args.result.now c.loop-arg-test.false in
    let images = rw all at c.loop-arg.invariant in
    rw (← c.t.view_is, c.in-Con.is, ← c.as_slice-args.ensures, typs_instance-of fixed_typ_variable c.as_slice-args.result.now, ← images) c.constructed.ensures
