use Rattle.std.proofs.Common.{◌≡◌, refl, take_all, arith, sym, subst}
use Rattle.pure_text.specs.Lists.{Each}
use Rattle.pure_text.proofs.AnswerLaws.{test_fails, yes_as, no_as}
use Rattle.pure_text.proofs.ListLaws.{each_read}
use Rattle.pure_text.proofs.LoopLaws.{each_turn}
use Rattle.pure_definitions.specs.Types.Typ.{Con, typs_of}
use Rattle.pure_definitions.proofs.TypsLemmas.{typ_depth-item}
use Rattle.pure_inst.specs.Named.{LacksTyps}
use Rattle.pure_inst.proofs.NamedLaws.{each_lacks}
use Rattle.pure_inst.proofs.StaysLaws.{ground_lacks}
use Rattle.pure_inst.proofs.named.+lacks_typs.Goals as goal

pub all_lack_typs-lacks_typs-requires : goal.all_lack_typs-lacks_typs-requires
all_lack_typs-lacks_typs-requires t c =
    let inside = typ_depth-item c.args.types.now c.loop-typ.typ-index c.typ-item.result c.loop-typ-test.true c.typ-item.is in
    (omega arith, tt)

pub all_lack_typs-returns-then-not-lacks_typs : goal.all_lack_typs-returns-then-not-lacks_typs
all_lack_typs-returns-then-not-lacks_typs t c =
    let fails = test_fails (LacksTyps c.args.names.now c.typ-item.result) c.lacks_typs.result c.lacks_typs.ensures c.if-not-lacks_typs.true in
    no_as (Each (LacksTyps c.args.names.now) c.args.types.now) (λ each. fails (each_read (LacksTyps c.args.names.now) c.args.types.now c.loop-typ.typ-index c.typ-item.result c.loop-typ-test.true c.typ-item.is each))

pub all_lack_typs-loop-typ-preserved : goal.all_lack_typs-loop-typ-preserved
all_lack_typs-loop-typ-preserved t c =
    each_turn (LacksTyps c.args.names.now) c.args.types.now c.loop-typ.typ-index c.typ-item.result c.loop-typ-test.true c.typ-item.is c.loop-typ.invariant (c.lacks_typs.ensures.0 c.if-not-lacks_typs.false)

pub all_lack_typs-returns : goal.all_lack_typs-returns
all_lack_typs-returns t c = yes_as (Each (LacksTyps c.args.names.now) c.args.types.now) (rw (take_all c.loop-typ.typ-index c.args.types.now c.loop-typ-test.false) at c.loop-typ.invariant)

pub lacks_typs-returns-in-Con : goal.lacks_typs-returns-in-Con
lacks_typs-returns-in-Con t c =
    let con : c.args.t.now ≡ Con c.in-Con.name (typs_of c.as_slice.result.now) = rw (← c.t.view_is, c.in-Con.is, c.as_slice.ensures) refl in
    let each = each_lacks c.args.names.now c.as_slice.result.now in
    (λ h. subst (LacksTyps c.args.names.now) (sym con) (each.0 (c.all_lack_typs.ensures.0 h)), λ h. c.all_lack_typs.ensures.1 (each.1 (subst (LacksTyps c.args.names.now) con h)))

pub lacks_typs-returns-then-is_ground_typ : goal.lacks_typs-returns-then-is_ground_typ
lacks_typs-returns-then-is_ground_typ t c = yes_as (LacksTyps c.args.names.now c.args.t.now) (ground_lacks c.args.names.now c.args.t.now (cc))
