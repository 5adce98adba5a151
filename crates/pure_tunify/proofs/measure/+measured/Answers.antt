use Rattle.std.proofs.Common.{arith}
use Rattle.pure_definitions.specs.Types.Typ.{TFree}
use Rattle.pure_definitions.specs.Terms.Limits.{IsWithinTyp}
use Rattle.pure_definitions.specs.Terms.Subst.{typ_instance}
use Rattle.pure_definitions.proofs.MeasureLemmas.{typ_stays}
use Rattle.pure_tunify.specs.Settings.{composed}
use Rattle.pure_tunify.specs.Measures.{IsMeasured}
use Rattle.pure_tunify.proofs.SettingLaws.{composed-fixed}
use Rattle.pure_tunify.proofs.WrittenLaws.{fixed_absent}
use Rattle.pure_tunify.proofs.MeasureLaws.{unset_measured, measured_more, part_beyond, whole_beyond, measured_all}
use Rattle.pure_tunify.proofs.measure.+measured.Goals as goal

pub returns-in_default : goal.returns-in_default
returns-in_default t c =
    let none : ¬ IsWithinTyp (typ_instance (composed c.args.settings.now.sets) c.arg-item.result) = rw c.in_default.is at c.in_ok-found-in-Con.ensures in
    rw (← c.t.view_is, c.in-Con.is, ← c.as_slice-args.ensures)
    (part_beyond (composed c.args.settings.now.sets) c.as_slice-args.result.now c.loop-arg.arg-index c.arg-item.result c.loop-arg.whole c.loop-arg.invariant c.loop-arg-test.true c.arg-item.is c.in-Con.name none)

pub returns-in_default-joined : goal.returns-in_default-joined
returns-in_default-joined t c =
    let part : IsMeasured (typ_instance (composed c.args.settings.now.sets) c.arg-item.result) c.in-Some.part = rw c.in-Some.is at c.in_ok-found-in-Con.ensures in
    rw (← c.t.view_is, c.in-Con.is, ← c.as_slice-args.ensures)
    (whole_beyond (composed c.args.settings.now.sets) c.as_slice-args.result.now c.loop-arg.arg-index c.arg-item.result c.loop-arg.whole c.loop-arg.invariant c.loop-arg-test.true c.arg-item.is c.in-Con.name c.in-Some.part part c.in_default-joined.ensures)

pub loop-arg-preserved : goal.loop-arg-preserved
loop-arg-preserved t c =
    let part : IsMeasured (typ_instance (composed c.args.settings.now.sets) c.arg-item.result) c.in-Some.part = rw c.in-Some.is at c.in_ok-found-in-Con.ensures in
    measured_more (composed c.args.settings.now.sets) c.as_slice-args.result.now c.loop-arg.arg-index c.arg-item.result c.loop-arg.whole c.loop-arg.invariant c.loop-arg-test.true c.arg-item.is c.in-Some.part c.in-Some-joined.more part c.in-Some-joined.ensures

pub returns-in-TFree : goal.returns-in-TFree
returns-in-TFree t c =
    rw (← c.t.view_is, c.in-TFree.is)
    (unset_measured c.args.settings.now.sets (TFree c.in-TFree.name c.in-TFree.sort) tt (fixed_absent c.args.settings.now.sets c.in-TFree.name c.in-TFree.sort))

pub returns-after-loop-arg : goal.returns-after-loop-arg
returns-after-loop-arg t c =
    rw (← c.t.view_is, c.in-Con.is, ← c.as_slice-args.ensures)
    (measured_all (composed c.args.settings.now.sets) c.as_slice-args.result.now c.loop-arg.arg-index c.in-Con.name c.loop-arg.whole c.loop-arg.invariant c.loop-arg-test.false)

pub returns-then-index_above_of_typ-eq0 : goal.returns-then-index_above_of_typ-eq0
returns-then-index_above_of_typ-eq0 t c =
    let sets = c.args.settings.now.sets in
    rw (typ_stays (composed sets) (composed-fixed sets) c.args.t.now (omega arith)) c.measure_of.ensures
