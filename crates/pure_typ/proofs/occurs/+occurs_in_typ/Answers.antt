use Rattle.std.proofs.Common.{◌≡◌, refl, sym, ◌∙◌, true≢false, arith}
use Rattle.pure_definitions.specs.Types.Typ.{Con, typs_of}
use Rattle.pure_definitions.specs.Models.Equality.{typ_eq-is_equality}
use Rattle.pure_definitions.proofs.TypsLemmas.{typ_depth-item, occurs-itself, occurs-item, occurs-next, occurs-con}
use Rattle.pure_typ.proofs.occurs.+occurs_in_typ.Goals as goal

pub occurs_in_some-occurs_in_typ-requires : goal.occurs_in_some-occurs_in_typ-requires
occurs_in_some-occurs_in_typ-requires t c =
    let inside = typ_depth-item c.args.types.now c.loop-typ.typ-index c.typ-item.result c.loop-typ-test.true c.typ-item.is in
    (omega arith, tt)

pub occurs_in_some-returns-then-occurs_in_typ : goal.occurs_in_some-returns-then-occurs_in_typ
occurs_in_some-returns-then-occurs_in_typ t c =
    (λ _. occurs-item c.args.v.now c.args.types.now c.loop-typ.typ-index c.typ-item.result c.loop-typ-test.true c.typ-item.is (c.occurs_in_typ.ensures.0 c.if-occurs_in_typ.true), λ _. refl)

pub occurs_in_some-loop-typ-preserved : goal.occurs_in_some-loop-typ-preserved
occurs_in_some-loop-typ-preserved t c =
    occurs-next c.args.v.now c.args.types.now c.loop-typ.typ-index c.typ-item.result c.loop-typ-test.true c.typ-item.is c.loop-typ.invariant
    (λ o. true≢false (sym (c.occurs_in_typ.ensures.1 o) ∙ c.if-occurs_in_typ.false))

pub occurs_in_typ-returns-then-eq : goal.occurs_in_typ-returns-then-eq
occurs_in_typ-returns-then-eq t c =
    (λ _. occurs-itself c.args.v.now c.args.t.now ((typ_eq-is_equality c.args.v.now c.args.t.now).0 (sym c.eq.ensures ∙ c.if-eq.true)), λ _. refl)

pub occurs_in_typ-returns-in-Con : goal.occurs_in_typ-returns-in-Con
occurs_in_typ-returns-in-Con t c =
    let con : c.args.t.now ≡ Con c.in-Con.name (typs_of c.as_slice.result.now) = rw (← c.t.view_is, c.in-Con.is, c.as_slice.ensures) refl in
    let inside = occurs-con c.args.v.now c.args.t.now c.in-Con.name (typs_of c.as_slice.result.now) con
    (λ e. true≢false (sym ((typ_eq-is_equality c.args.v.now c.args.t.now).1 e) ∙ (sym c.eq.ensures ∙ c.if-eq.false))) in
    (λ h. inside.1 (c.occurs_in_some.ensures.0 h), λ o. c.occurs_in_some.ensures.1 (inside.0 o))
