use Rattle.std.proofs.Common.{◌-◌, arith, None, Some}
use Rattle.pure_definitions.specs.Types.Typ.{typ_size, typ_depth}
use Rattle.pure_definitions.specs.Terms.Subst.{typ_instance}
use Rattle.pure_definitions.specs.Terms.Limits.{Leaves}
use Rattle.pure_definitions.proofs.TypsLemmas.{typ_size-some, typ_depth-some}
use Rattle.pure_definitions.proofs.InstanceLemmas.{instance-stops, instance-goes_on, instance-all}
use Rattle.pure_definitions.proofs.MeasureLemmas.{typ_stays}
use Rattle.pure_term_laws.specs.LawsOccurs.{IsTypVariable}
use Rattle.pure_tunify.specs.Settings.{composed}
use Rattle.pure_tunify.proofs.SettingLaws.{composed-fixed}
use Rattle.pure_tunify.proofs.WrittenLaws.{leaf_left}
use Rattle.pure_tunify.proofs.resolve.+resolved_leaves.Goals as goal

pub returns-then-left-eq0 : goal.returns-then-left-eq0
returns-then-left-eq0 t c = λ h. let some = typ_size-some (typ_instance (composed c.args.settings.now.sets) c.args.t.now) in absurd (omega arith)

pub returns-then-room-eq0 : goal.returns-then-room-eq0
returns-then-room-eq0 t c = λ h. let some = typ_depth-some (typ_instance (composed c.args.settings.now.sets) c.args.t.now) in omega arith

pub loop-arg-preserved : goal.loop-arg-preserved
loop-arg-preserved t c =
    let found : Leaves c.loop-arg.rest (c.args.room - 1) (typ_size (typ_instance (composed c.args.settings.now.sets) c.arg-item.result)) (typ_depth (typ_instance (composed c.args.settings.now.sets) c.arg-item.result)) (Some c.in-Some.less) = rw c.in-Some.is at c.in_ok-found-in-Con.ensures in
    instance-goes_on (composed c.args.settings.now.sets) c.as_slice-args.result.now c.args.left c.args.room c.loop-arg.arg-index c.loop-arg.rest c.in-Some.less c.arg-item.result c.loop-arg.invariant c.loop-arg-test.true c.arg-item.is found

pub returns-in_default : goal.returns-in_default
returns-in_default t c =
    let none : Leaves c.loop-arg.rest (c.args.room - 1) (typ_size (typ_instance (composed c.args.settings.now.sets) c.arg-item.result)) (typ_depth (typ_instance (composed c.args.settings.now.sets) c.arg-item.result)) None = rw c.in_default.is at c.in_ok-found-in-Con.ensures in
    rw (← c.in_ok-top.ensures.same, ← c.top.view_is, c.in-Con.is, ← c.as_slice-args.ensures)
    (instance-stops (composed c.args.settings.now.sets) c.as_slice-args.result.now c.args.left c.args.room c.loop-arg.arg-index c.loop-arg.rest c.arg-item.result c.loop-arg.invariant c.loop-arg-test.true c.arg-item.is none)

pub returns-in-TFree : goal.returns-in-TFree
returns-in-TFree t c =
    let is : IsTypVariable c.in_ok-top.top.now = rw (← c.top.view_is, c.in-TFree.is) tt in
    leaf_left c.args.settings.now.sets c.args.t.now c.in_ok-top.top.now c.args.left c.args.room c.in_ok-top.ensures.same is (c.in_ok-top.ensures.free is) c.if-left-eq0.false c.if-room-eq0.false

pub returns-in-TVar : goal.returns-in-TVar
returns-in-TVar t c =
    let is : IsTypVariable c.in_ok-top.top.now = rw (← c.top.view_is, c.in-TVar.is) tt in
    leaf_left c.args.settings.now.sets c.args.t.now c.in_ok-top.top.now c.args.left c.args.room c.in_ok-top.ensures.same is (c.in_ok-top.ensures.free is) c.if-left-eq0.false c.if-room-eq0.false

pub returns-after-loop-arg : goal.returns-after-loop-arg
returns-after-loop-arg t c =
    rw (← c.in_ok-top.ensures.same, ← c.top.view_is, c.in-Con.is, ← c.as_slice-args.ensures)
    (instance-all (composed c.args.settings.now.sets) c.as_slice-args.result.now c.args.left c.args.room c.loop-arg.arg-index c.loop-arg.rest c.loop-arg.invariant c.loop-arg-test.false)

pub returns-then-index_above_of_typ-eq0 : goal.returns-then-index_above_of_typ-eq0
returns-then-index_above_of_typ-eq0 t c =
    let sets = c.args.settings.now.sets in
    rw (← c.in_ok-top.ensures.same, typ_stays (composed sets) (composed-fixed sets) c.in_ok-top.top.now (omega arith)) c.typ_leaves.ensures
