use Rattle.std.proofs.Common.{refl, sym, ◌∙◌, inl, inr, true≢false, take_all, arith}
use Rattle.pure_definitions.specs.Types.Typ.{TVar, typs_of}
use Rattle.pure_definitions.specs.Types.Occurs.{OccursInTyps}
use Rattle.pure_definitions.proofs.TypsLemmas.{occurs-item, occurs-next}
use Rattle.pure_tunify.proofs.IndexLaws.{below_index}
use Rattle.pure_tunify.proofs.FreeLaws.{told}
use Rattle.pure_tunify.proofs.occurs.+occurs_schematic.Goals as goal

pub loop-arg-preserved : goal.loop-arg-preserved
loop-arg-preserved t c =
    occurs-next (TVar c.args.name c.args.index c.args.sort.now) c.as_slice-args.result.now c.loop-arg.arg-index c.arg-item.result c.loop-arg-test.true c.arg-item.is c.loop-arg.invariant
    (λ o. true≢false (sym (c.occurs_schematic.ensures.1 o) ∙ c.if-occurs_schematic.false))

pub returns-then-occurs_schematic : goal.returns-then-occurs_schematic
returns-then-occurs_schematic t c =
    rw (← c.t.view_is, c.in-Con.is, ← c.as_slice-args.ensures)
    (λ _. inr (occurs-item (TVar c.args.name c.args.index c.args.sort.now) c.as_slice-args.result.now c.loop-arg.arg-index c.arg-item.result c.loop-arg-test.true c.arg-item.is (c.occurs_schematic.ensures.0 c.if-occurs_schematic.true)), λ _. refl)

pub returns-after-loop-arg : goal.returns-after-loop-arg
returns-after-loop-arg t c =
    let all = take_all c.loop-arg.arg-index c.as_slice-args.result.now c.loop-arg-test.false in
    let none : ¬ OccursInTyps (TVar c.args.name c.args.index c.args.sort.now) (typs_of c.as_slice-args.result.now) = rw all at c.loop-arg.invariant in
    rw (← c.t.view_is, c.in-Con.is, ← c.as_slice-args.ensures)
    (λ h. absurd (cc), λ o. elim o [ inl e ↦ absurd (cc) | inr m ↦ absurd (none m) ])

pub returns-then-index_above_of_typ-from : goal.returns-then-index_above_of_typ-from
returns-then-index_above_of_typ-from t c = told (λ o. let below = below_index c.args.name c.args.index c.args.sort.now c.args.t.now o in absurd (omega arith))
