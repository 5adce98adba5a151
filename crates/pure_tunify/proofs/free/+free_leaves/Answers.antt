use Rattle.std.proofs.Common.{◌≡◌, map, ap, ◌∙◌, take_all, arith}
use Rattle.pure_definitions.specs.Types.Typ.{TFree, Con, typs_of}
use Rattle.pure_definitions.specs.Terms.Subst.{typ_instance}
use Rattle.pure_definitions.proofs.InstanceLemmas.{typs_instance-of}
use Rattle.pure_definitions.proofs.MeasureLemmas.{typ_stays}
use Rattle.pure_term_laws.specs.LawsOccurs.{IsTypVariable}
use Rattle.pure_tunify.specs.Settings.{composed}
use Rattle.pure_tunify.proofs.SettingLaws.{composed-fixed}
use Rattle.pure_tunify.proofs.WrittenLaws.{fixed_absent, leaf_same}
use Rattle.pure_tunify.proofs.FreeLaws.{same-more}
use Rattle.pure_tunify.proofs.free.+free_leaves.Goals as goal

pub loop-arg-preserved : goal.loop-arg-preserved
loop-arg-preserved t c =
    same-more (composed c.args.settings.now.sets) c.as_slice-args.result.now c.loop-arg.arg-index c.arg-item.result c.loop-arg.invariant c.in-Some-free_leaves.ensures c.loop-arg-test.true c.arg-item.is

pub returns-in-TFree : goal.returns-in-TFree
returns-in-TFree t c =
    let sets = c.args.settings.now.sets in
    rw (← c.t.view_is, c.in-TFree.is) (leaf_same sets (TFree c.in-TFree.name c.in-TFree.sort) tt (fixed_absent sets c.in-TFree.name c.in-TFree.sort))

pub returns-in-None : goal.returns-in-None
returns-in-None t c =
    let is : IsTypVariable c.args.t.now = rw (← c.t.view_is, c.in-TVar.is) tt in
    leaf_same c.args.settings.now.sets c.args.t.now is (c.in-None.ensures.image is)

pub returns-after-loop-arg : goal.returns-after-loop-arg
returns-after-loop-arg t c =
    let all = take_all c.loop-arg.arg-index c.as_slice-args.result.now c.loop-arg-test.false in
    let same : map (typ_instance (composed c.args.settings.now.sets)) c.as_slice-args.result.now ≡ c.as_slice-args.result.now = rw all at c.loop-arg.invariant in
    rw (← c.t.view_is, c.in-Con.is, ← c.as_slice-args.ensures)
    (ap (Con c.in-Con.name) (typs_instance-of (composed c.args.settings.now.sets) c.as_slice-args.result.now ∙ ap typs_of same))

pub returns-then-index_above_of_typ-eq0 : goal.returns-then-index_above_of_typ-eq0
returns-then-index_above_of_typ-eq0 t c = typ_stays (composed c.args.settings.now.sets) (composed-fixed c.args.settings.now.sets) c.args.t.now (omega arith)
