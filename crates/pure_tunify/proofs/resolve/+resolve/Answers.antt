use Rattle.std.proofs.Common.{◌-◌, refl, arith, take_all, None, Some}
use Rattle.pure_definitions.specs.Terms.Subst.{typ_instance}
use Rattle.pure_definitions.proofs.TypsLemmas.{typ_size-some, typ_depth-some}
use Rattle.pure_definitions.proofs.InstanceLemmas.{typs_instance-of, instance-stops, instance-goes_on, instance-all, images-more}
use Rattle.pure_definitions.proofs.MeasureLemmas.{typ_stays}
use Rattle.pure_term_laws.specs.LawsOccurs.{IsTypVariable}
use Rattle.pure_tunify.specs.Settings.{composed}
use Rattle.pure_tunify.specs.Working.{IsResolved}
use Rattle.pure_tunify.proofs.ReachLaws.{on_true}
use Rattle.pure_tunify.proofs.SettingLaws.{composed-fixed}
use Rattle.pure_tunify.proofs.TwiceLaws.{twice_resolved}
use Rattle.pure_tunify.proofs.StandingLaws.{stays_resolved, made_resolved}
use Rattle.pure_tunify.proofs.WrittenLaws.{leaf_same}
use Rattle.std.proofs.lemmas.Result.{IfOk-weaker}
use Rattle.pure_tunify.proofs.resolve.+resolve.Goals as goal

pub returns-then-left-eq0 : goal.returns-then-left-eq0
returns-then-left-eq0 t c = λ h. let some = typ_size-some (typ_instance (composed c.args.settings.now.sets) c.args.t.now) in absurd (omega arith)

pub returns-then-room-eq0 : goal.returns-then-room-eq0
returns-then-room-eq0 t c = λ h. let some = typ_depth-some (typ_instance (composed c.args.settings.now.sets) c.args.t.now) in omega arith

pub loop-arg-preserved : goal.loop-arg-preserved
loop-arg-preserved t c =
    let found : IsResolved c.args.settings.now.sets c.arg-item.result c.loop-arg.rest (c.args.room - 1) (Some c.in-Some-found.image) = rw c.in-Some-found.is at c.in_ok-found-in-Con.ensures in
    record {
      put = instance-goes_on (composed c.args.settings.now.sets) c.as_slice-args.result.now c.args.left c.args.room c.loop-arg.arg-index c.loop-arg.rest c.in-Some-found.image.left c.arg-item.result c.loop-arg.invariant.put c.loop-arg-test.true c.arg-item.is found.1;
      images = images-more (composed c.args.settings.now.sets) c.as_slice-args.result.now c.loop-arg.images.items c.push.new.self.items c.loop-arg.arg-index c.arg-item.result c.in-Some-found.image.typ c.loop-arg.invariant.images c.in_ok-push-in-Con.ensures.items found.0 c.loop-arg-test.true c.arg-item.is;
    }

pub returns-in_default-found : goal.returns-in_default-found
returns-in_default-found t c =
    let none : IsResolved c.args.settings.now.sets c.arg-item.result c.loop-arg.rest (c.args.room - 1) None = rw c.in_default-found.is at c.in_ok-found-in-Con.ensures in
    rw (← c.in_ok-top.ensures.same, ← c.top.view_is, c.in-Con.is, ← c.as_slice-args.ensures)
    (instance-stops (composed c.args.settings.now.sets) c.as_slice-args.result.now c.args.left c.args.room c.loop-arg.arg-index c.loop-arg.rest c.arg-item.result c.loop-arg.invariant.put c.loop-arg-test.true c.arg-item.is none)

pub returns-in-TFree : goal.returns-in-TFree
returns-in-TFree t c =
    let is : IsTypVariable c.in_ok-top.top.now = rw (← c.top.view_is, c.in-TFree.is) tt in
    stays_resolved c.args.settings.now.sets c.args.t.now c.in_ok-top.top.now c.args.left c.args.room c.in_ok-top.ensures.same (leaf_same c.args.settings.now.sets c.in_ok-top.top.now is (c.in_ok-top.ensures.free is)) c.put_in-in-TFree.result c.put_in-in-TFree.ensures

pub returns-in-TVar : goal.returns-in-TVar
returns-in-TVar t c =
    let is : IsTypVariable c.in_ok-top.top.now = rw (← c.top.view_is, c.in-TVar.is) tt in
    stays_resolved c.args.settings.now.sets c.args.t.now c.in_ok-top.top.now c.args.left c.args.room c.in_ok-top.ensures.same (leaf_same c.args.settings.now.sets c.in_ok-top.top.now is (c.in_ok-top.ensures.free is)) c.put_in-in-TVar.result c.put_in-in-TVar.ensures

pub returns-after-loop-arg : goal.returns-after-loop-arg
returns-after-loop-arg t c =
    let sets = c.args.settings.now.sets in
    let all = take_all c.loop-arg.arg-index c.as_slice-args.result.now c.loop-arg-test.false in
    let images = rw all at c.loop-arg.invariant.images in
    made_resolved sets c.args.t.now c.in_ok-top.top.now c.in-Con.name c.as_slice-args.result.now c.loop-arg.images.items c.args.left c.args.room c.loop-arg.rest c.in_ok-top.ensures.same (rw (← c.top.view_is, c.in-Con.is, ← c.as_slice-args.ensures) refl) images
    (instance-all (composed sets) c.as_slice-args.result.now c.args.left c.args.room c.loop-arg.arg-index c.loop-arg.rest c.loop-arg.invariant.put c.loop-arg-test.false) c.constructed.result c.constructed.ensures

pub returns-then-index_above_of_typ-eq0 : goal.returns-then-index_above_of_typ-eq0
returns-then-index_above_of_typ-eq0 t c =
    let sets = c.args.settings.now.sets in
    stays_resolved sets c.args.t.now c.in_ok-top.top.now c.args.left c.args.room c.in_ok-top.ensures.same (typ_stays (composed sets) (composed-fixed sets) c.in_ok-top.top.now (omega arith)) c.put_in.result c.put_in.ensures

pub returns-then-is_settled : goal.returns-then-is_settled
returns-then-is_settled t c =
    stays_resolved c.args.settings.now.sets c.args.t.now c.in_ok-top.top.now c.args.left c.args.room c.in_ok-top.ensures.same (on_true _ c.is_settled.result c.is_settled.ensures c.if-is_settled.true) c.put_in-then-is_settled.result c.put_in-then-is_settled.ensures

pub returns-in-Some : goal.returns-in-Some
returns-in-Some t c =
    IfOk-weaker c.put_twice.result _ (IsResolved c.args.settings.now.sets c.args.t.now c.args.left c.args.room) (λ o h.
    twice_resolved c.args.settings.now.sets c.args.t.now c.in_ok-top.top.now c.in-Con.name c.as_slice-args.result.now c.in-Some.part.now c.args.left c.args.room c.in_ok-half-in-Con.half o
    c.in_ok-top.ensures.same (rw (← c.top.view_is, c.in-Con.is, ← c.as_slice-args.ensures) refl) c.in-Some.ensures (omega (arith, c.if-left-eq0.false)) (omega (arith, c.if-room-eq0.false)) c.in_ok-half-in-Con.ensures h) c.put_twice.ensures
