use Rattle.std.proofs.Common.{◌≡◌, ◌<◌, length, refl, arith}
use Rattle.pure_definitions.specs.Types.Typ.{TFree, TVar, Con, typs_of}
use Rattle.pure_definitions.proofs.TypsLemmas.{typ_depth-item}
use Rattle.pure_certify.proofs.MatchLemmas.{walked-at_fixed, walked-at_schematic, walked-at_con, excluded-by_constructor, excluded-by_length, excluded-next, matched-none, matched-next, matched-all, when_true, when_false}
use Rattle.pure_certify.proofs.matching.+match_typ.Goals as goal

pub match_typ-returns-in-TFree : goal.match_typ-returns-in-TFree
match_typ-returns-in-TFree t c =
    let fixed : c.args.declared.now ≡ TFree c.in-TFree.name c.in-TFree.sort = rw (← c.declared.view_is, c.in-TFree.is) refl in
    walked-at_fixed c.args.declared.now c.args.typ.now c.in-TFree.name c.in-TFree.sort c.args.binds.now c.eq.result fixed c.eq.ensures

pub match_typ-returns-in_ok-fits-in-TVar : goal.match_typ-returns-in_ok-fits-in-TVar
match_typ-returns-in_ok-fits-in-TVar t c =
    let variable : c.args.declared.now ≡ TVar c.in-TVar.name c.in-TVar.index c.in-TVar.sort = rw (← c.declared.view_is, c.in-TVar.is) refl in
    walked-at_schematic c.args.declared.now c.args.typ.now c.in-TVar.name c.in-TVar.index c.in-TVar.sort c.args.binds.now c.match_variable.new.binds c.in_ok-fits-in-TVar.fits variable c.in_ok-fits-in-TVar.ensures

pub match_typ-returns-in-None : goal.match_typ-returns-in-None
match_typ-returns-in-None t c =
    let con : c.args.declared.now ≡ Con c.in-Con.name (typs_of c.as_slice-args.result.now) = rw (← c.declared.view_is, c.in-Con.is, c.as_slice-args.ensures) refl in
    excluded-by_constructor c.args.declared.now c.args.typ.now c.in-Con.name (typs_of c.as_slice-args.result.now) c.args.binds.now con c.in-None.ensures

pub match_typ-returns-in_ok-matches-in-Some : goal.match_typ-returns-in_ok-matches-in-Some
match_typ-returns-in_ok-matches-in-Some t c =
    let con : c.args.declared.now ≡ Con c.in-Con.name (typs_of c.as_slice-args.result.now) = rw (← c.declared.view_is, c.in-Con.is, c.as_slice-args.ensures) refl in
    walked-at_con c.args.declared.now c.args.typ.now c.in-Con.name (typs_of c.as_slice-args.result.now) (typs_of c.in-Some.types.now) c.args.binds.now c.match_types.new.binds c.in_ok-matches-in-Some.matches
    con c.in-Some.ensures c.in_ok-matches-in-Some.ensures

pub match_types-returns-then-declared-types : goal.match_types-returns-then-declared-types
match_types-returns-then-declared-types t c = excluded-by_length c.args.declared.now c.args.types.now c.args.binds.now c.if-declared-types.true

pub match_types-match_typ-requires : goal.match_types-match_typ-requires
match_types-match_typ-requires t c =
    let inside = typ_depth-item c.args.declared.now c.loop-i.i c.index-declared-i.result c.loop-i-test.true c.index-declared-i.is in
    (omega arith, tt)

pub match_types-loop-i-init : goal.match_types-loop-i-init
match_types-loop-i-init t c = matched-none c.args.declared.now c.args.types.now c.args.binds.now

pub match_types-returns-then-not-can : goal.match_types-returns-then-not-can
match_types-returns-then-not-can t c =
    excluded-next c.args.declared.now c.args.types.now c.loop-i.i c.index-declared-i.result c.index-types-i.result c.args.binds.now c.loop-i.binds c.loop-i-test.true c.index-declared-i.is c.index-types-i.is c.loop-i.invariant
    (when_false _ _ c.in_ok-can.can c.in_ok-can.ensures c.if-not-can.true)

pub match_types-loop-i-preserved : goal.match_types-loop-i-preserved
match_types-loop-i-preserved t c =
    let same : length c.args.declared.now ≡ length c.args.types.now = c.if-declared-types.false in
    let inside : c.loop-i.i < length c.args.declared.now = c.loop-i-test.true in
    let other : c.loop-i.i < length c.args.types.now = omega arith in
    matched-next c.args.declared.now c.args.types.now c.loop-i.i c.index-declared-i.result c.index-types-i.result c.args.binds.now c.loop-i.binds c.match_typ.new.binds inside other c.index-declared-i.is c.index-types-i.is c.loop-i.invariant
    (when_true _ _ c.in_ok-can.can c.in_ok-can.ensures c.if-not-can.false)

pub match_types-returns : goal.match_types-returns
match_types-returns t c = matched-all c.args.declared.now c.args.types.now c.loop-i.i c.args.binds.now c.loop-i.binds c.if-declared-types.false c.loop-i-test.false c.loop-i.invariant
