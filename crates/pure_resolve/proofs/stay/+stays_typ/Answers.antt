use Rattle.std.proofs.Common.{◌≡◌, take_all, ap, arith}
use Rattle.pure_text.proofs.LoopLaws.{each_turn}
use Rattle.pure_definitions.specs.Types.Typ.{Typ, Con}
use Rattle.pure_definitions.specs.Terms.Subst.{typ_image, typ_instance}
use Rattle.pure_definitions.proofs.TypsLemmas.{typ_depth-item}
use Rattle.pure_definitions.proofs.InstanceLemmas.{typ_image-fixed}
use Rattle.pure_resolve.proofs.StayLaws.{args-stay, low_typ_stays}
use Rattle.pure_resolve.proofs.stay.+stays_typ.Goals as goal

pub all_stay-stays_typ-requires : goal.all_stay-stays_typ-requires
all_stay-stays_typ-requires t c =
    let inside = typ_depth-item c.args.types.now c.loop-typ.typ-index c.typ-item.result c.loop-typ-test.true c.typ-item.is in
    (omega arith, c.requires)

pub all_stay-loop-typ-preserved : goal.all_stay-loop-typ-preserved
all_stay-loop-typ-preserved t c =
    each_turn (λ (u : Typ). typ_instance (typ_image c.args.typs.now) u ≡ u) c.args.types.now c.loop-typ.typ-index c.typ-item.result c.loop-typ-test.true c.typ-item.is c.loop-typ.invariant (c.stays_typ.ensures c.if-not-stays_typ.false)

pub all_stay-returns : goal.all_stay-returns
all_stay-returns t c = λ _. rw (take_all c.loop-typ.typ-index c.args.types.now c.loop-typ-test.false) at c.loop-typ.invariant

pub stays_typ-returns-then-index_above_of_typ-least : goal.stays_typ-returns-then-index_above_of_typ-least
stays_typ-returns-then-index_above_of_typ-least t c = λ _. low_typ_stays c.args.typs.now c.args.least c.requires c.args.t.now (omega arith)

pub stays_typ-returns-in-TFree : goal.stays_typ-returns-in-TFree
stays_typ-returns-in-TFree t c = λ _. rw (← c.t.view_is, c.in-TFree.is) (typ_image-fixed c.args.typs.now c.in-TFree.name c.in-TFree.sort)

pub stays_typ-returns-in-Con : goal.stays_typ-returns-in-Con
stays_typ-returns-in-Con t c = λ h. rw (← c.t.view_is, c.in-Con.is, ← c.as_slice.ensures) (ap (Con c.in-Con.name) (args-stay (typ_image c.args.typs.now) c.as_slice.result.now (c.all_stay.ensures h)))
