use Rattle.std.proofs.Common.{◌≡◌, refl, arith}
use Rattle.pure_text.proofs.AnswerLaws.{test_eq, test_fails, yes_as, no_as}
use Rattle.pure_text.proofs.ListLaws.{two_long, two_read}
use Rattle.pure_text.proofs.LoopLaws.{two_turn, two_full}
use Rattle.pure_definitions.specs.Types.Typ.{TFree, TVar, Con, typs_of}
use Rattle.pure_definitions.specs.Terms.Subst.{typ_image, typ_instance, typs_instance}
use Rattle.pure_definitions.proofs.TypsLemmas.{typ_depth-item}
use Rattle.pure_definitions.proofs.InstanceLemmas.{typ_image-fixed}
use Rattle.pure_inst.proofs.ReplacedLaws.{con-instances}
use Rattle.pure_inst.proofs.image.+is_instance.Goals as goal

pub are_instances-is_instance-requires : goal.are_instances-is_instance-requires
are_instances-is_instance-requires t c =
    let inside = typ_depth-item c.args.types.now c.loop-i.i c.index-types-i.result c.loop-i-test.true c.index-types-i.is in
    (omega arith, tt)

pub are_instances-returns-then-types-others : goal.are_instances-returns-then-types-others
are_instances-returns-then-types-others t c =
    no_as _ (λ h. c.if-types-others.true (two_long (λ t u. typ_instance (typ_image c.args.typs.now) t ≡ u) c.args.types.now c.args.others.now h))

pub are_instances-returns-then-not-is_instance : goal.are_instances-returns-then-not-is_instance
are_instances-returns-then-not-is_instance t c =
    no_as _ (λ h. test_fails _ c.is_instance.result c.is_instance.ensures c.if-not-is_instance.true
    (two_read (λ t u. typ_instance (typ_image c.args.typs.now) t ≡ u) c.args.types.now c.args.others.now c.loop-i.i c.index-types-i.result c.index-others-i.result c.loop-i-test.true c.index-types-i.is c.index-others-i.is h))

pub are_instances-loop-i-preserved : goal.are_instances-loop-i-preserved
are_instances-loop-i-preserved t c =
    two_turn (λ t u. typ_instance (typ_image c.args.typs.now) t ≡ u) c.args.types.now c.args.others.now c.loop-i.i c.index-types-i.result c.index-others-i.result c.if-types-others.false c.loop-i-test.true c.index-types-i.is c.index-others-i.is c.loop-i.invariant
    (c.is_instance.ensures.0 c.if-not-is_instance.false)

pub are_instances-returns : goal.are_instances-returns
are_instances-returns t c =
    yes_as _ (two_full (λ t u. typ_instance (typ_image c.args.typs.now) t ≡ u) c.args.types.now c.args.others.now c.loop-i.i c.if-types-others.false c.loop-i-test.false c.loop-i.invariant)

pub is_instance-returns-in-TFree : goal.is_instance-returns-in-TFree
is_instance-returns-in-TFree t c =
    let fixed : typ_instance (typ_image c.args.typs.now) c.args.t.now ≡ c.args.t.now = rw (← c.t.view_is, c.in-TFree.is) (typ_image-fixed c.args.typs.now c.in-TFree.name c.in-TFree.sort) in
    rw fixed c.are_same_typs.ensures

pub is_instance-returns-in-Con : goal.is_instance-returns-in-Con
is_instance-returns-in-Con t c = rw (← c.t.view_is, c.in-Con.is, ← c.as_slice.ensures) c.con_is_instance.ensures

pub con_is_instance-returns-in-TFree : goal.con_is_instance-returns-in-TFree
con_is_instance-returns-in-TFree t c =
    no_as _ (λ e. (let other : Con c.args.name (typs_instance (typ_image c.args.typs.now) (typs_of c.args.args.now)) ≡ TFree c.in-TFree.name c.in-TFree.sort = rw (← c.other.view_is, c.in-TFree.is) at e in cc))

pub con_is_instance-returns-in-TVar : goal.con_is_instance-returns-in-TVar
con_is_instance-returns-in-TVar t c =
    no_as _ (λ e. (let other : Con c.args.name (typs_instance (typ_image c.args.typs.now) (typs_of c.args.args.now)) ≡ TVar c.in-TVar.name c.in-TVar.index c.in-TVar.sort = rw (← c.other.view_is, c.in-TVar.is) at e in cc))

pub con_is_instance-returns-then-eq : goal.con_is_instance-returns-then-eq
con_is_instance-returns-then-eq t c =
    let is : c.args.other.now ≡ Con c.in-Con.own (typs_of c.as_slice.result.now) = rw (← c.other.view_is, c.in-Con.is, c.as_slice.ensures) refl in
    let name : c.args.name ≡ c.in-Con.own = (test_eq c.args.name c.in-Con.own c.eq.result c.eq.ensures).0 c.if-eq.true in
    let same = con-instances (typ_image c.args.typs.now) c.args.name c.in-Con.own c.args.args.now c.as_slice.result.now name in
    rw is (λ h. same.0 (c.are_instances.ensures.0 h), λ e. c.are_instances.ensures.1 (same.1 e))
