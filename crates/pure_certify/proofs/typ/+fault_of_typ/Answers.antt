use Rattle.std.proofs.Common.{◌≡◌, refl, sym, arith, length}
use Rattle.pure_definitions.specs.Types.Typ.{Con, typs_of}
use Rattle.pure_definitions.proofs.TypsLemmas.{typ_depth-item}
use Rattle.pure_certify.proofs.PartLemmas.{fault-at_con, fault-at_arg, certified-next, typs_count-of, answer-at_con}
use Rattle.pure_certify.proofs.typ.+fault_of_typ.Goals as goal

pub fault_of_typ-returns-in-Some : goal.fault_of_typ-returns-in-Some
fault_of_typ-returns-in-Some g t c =
    let items = c.as_slice-args.result.now in
    let con : c.args.t.now ≡ Con c.in-Con.name (typs_of items) = rw (← c.t.view_is, c.in-Con.is, c.as_slice-args.ensures) refl in
    rw con (fault-at_con (g.D.Tables.declarations c.args.tables.now) c.in-Con.name (length items) (typs_of items) c.in-Some.fault (sym (typs_count-of items)) c.in-Some.ensures)

pub fault_of_typ-returns-in_default : goal.fault_of_typ-returns-in_default
fault_of_typ-returns-in_default g t c =
    let items = c.as_slice-args.result.now in
    let con : c.args.t.now ≡ Con c.in-Con.name (typs_of items) = rw (← c.t.view_is, c.in-Con.is, c.as_slice-args.ensures) refl in
    answer-at_con (g.D.Tables.declarations c.args.tables.now) c.args.t.now c.in-Con.name (length items) (typs_of items) c.fault_of_types.result con (sym (typs_count-of items)) c.in_default.ensures c.fault_of_types.ensures

pub fault_of_types-returns-in-Some : goal.fault_of_types-returns-in-Some
fault_of_types-returns-in-Some g t c =
    fault-at_arg (g.D.Tables.declarations c.args.tables.now) c.args.types.now c.loop-t.t-index c.t-item.result c.in-Some.fault c.loop-t-test.true c.t-item.is c.loop-t.invariant c.in-Some.ensures

pub fault_of_types-loop-t-preserved : goal.fault_of_types-loop-t-preserved
fault_of_types-loop-t-preserved g t c =
    certified-next (g.D.Tables.declarations c.args.tables.now) c.args.types.now c.loop-t.t-index c.t-item.result c.loop-t-test.true c.t-item.is c.loop-t.invariant c.in_default.ensures

pub fault_of_types-fault_of_typ-requires : goal.fault_of_types-fault_of_typ-requires
fault_of_types-fault_of_typ-requires g t c κs within =
    let inside = typ_depth-item c.args.types.now c.loop-t.t-index c.t-item.result c.loop-t-test.true c.t-item.is in
    (omega arith, within)
