use Rattle.std.proofs.Common.{◌≡◌, ◌+◌, ap, refl, arith}
use Rattle.std.proofs.lemmas.List.{take_all}
use Rattle.pure_definitions.specs.Types.Typ.{Con, typs_of, typ_depth, typs_depth}
use Rattle.pure_definitions.proofs.InstanceLemmas.{typs_instance-of, images-more}
use Rattle.pure_definitions.proofs.TypsLemmas.{typ_depth-item}
use Rattle.pure_logic.specs.Laws.Maps.{raised_typs}
use Rattle.pure_goal_rules.proofs.StayLaws.{raised_typ_stays}
use Rattle.pure_goal_rules.proofs.raising.+raised_typ.Goals as goal

pub returns-then-index_above_of_typ-eq0 : goal.returns-then-index_above_of_typ-eq0
returns-then-index_above_of_typ-eq0 t c = rw (raised_typ_stays c.args.by c.args.t.now (omega arith)) c.copy.ensures

pub raised_typ-requires : goal.raised_typ-requires
raised_typ-requires t c =
    let inside = typ_depth-item c.as_slice-args.result.now c.loop-arg.arg-index c.arg-item.result c.loop-arg-test.true c.arg-item.is in
    let con : c.args.t.now ≡ Con c.in-Con.name (typs_of c.as_slice-args.result.now) = rw (← c.t.view_is, c.in-Con.is, c.as_slice-args.ensures) refl in
    let deep : typ_depth c.args.t.now ≡ 1 + typs_depth (typs_of c.as_slice-args.result.now) = ap typ_depth con in
    omega (arith, inside, deep)

pub loop-arg-preserved : goal.loop-arg-preserved
loop-arg-preserved t c =
    images-more (raised_typs c.args.by) c.as_slice-args.result.now c.loop-arg.images.items c.push.new.self.items c.loop-arg.arg-index c.arg-item.result c.in_ok-raised_typ-in-Con.field-0
    c.loop-arg.invariant c.in_ok-push-in-Con.ensures.items c.in_ok-raised_typ-in-Con.ensures c.loop-arg-test.true c.arg-item.is

pub returns-after-loop-arg : goal.returns-after-loop-arg
returns-after-loop-arg t c =
    let all = take_all c.loop-arg.arg-index c.as_slice-args.result.now c.loop-arg-test.false in
    let images = rw all at c.loop-arg.invariant in
    rw (← c.t.view_is, c.in-Con.is, ← c.as_slice-args.ensures, typs_instance-of (raised_typs c.args.by) c.as_slice-args.result.now, ← images) c.constructed.ensures
