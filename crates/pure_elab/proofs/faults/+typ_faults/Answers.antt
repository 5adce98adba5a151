use Rattle.std.proofs.Common.{◌≡◌, ◌∙◌, length, ap, sym, arith}
use Rattle.pure_elab.specs.Faults.{earliest, constructor_faults, typ_faults}
use Rattle.pure_elab.proofs.WalkLaws.{typs_faults-turn, raw_depth-item, faults_of_con}
use Rattle.pure_elab.proofs.faults.+typ_faults.Goals as goal

pub with_typs-with_typ-found-requires : goal.with_typs-with_typ-found-requires
with_typs-with_typ-found-requires g t c κs within =
    let inside = raw_depth-item c.args.args.now c.loop-arg.arg-index c.arg-item.result c.loop-arg-test.true c.arg-item.is in
    (omega arith, within)

pub with_typs-loop-arg-preserved : goal.with_typs-loop-arg-preserved
with_typs-loop-arg-preserved g t c =
    let V = g.L.Language.vocabulary c.args.language.now in
    c.with_typ-found.ensures
    ∙ ap (λ b. earliest b (typ_faults V c.arg-item.result)) c.loop-arg.invariant
    ∙ sym (typs_faults-turn V c.args.best c.args.args.now c.loop-arg.arg-index c.arg-item.result c.loop-arg-test.true c.arg-item.is)

pub with_typ-returns-in-Con : goal.with_typ-returns-in-Con
with_typ-returns-in-Con g t c =
    let V = g.L.Language.vocabulary c.args.language.now in
    let first : c.with_constructor-first.result ≡ earliest c.args.best (constructor_faults V c.in-Con.at (V.constructor_written c.in-Con.name) (length c.as_slice-args.result.now)) = grind arith in
    rw (← c.raw.view_is, c.in-Con.is, ← c.as_slice-args.ensures.value) (faults_of_con V c.args.best c.with_constructor-first.result c.with_typs.result c.in-Con.at c.in-Con.name c.as_slice-args.result.now first c.with_typs.ensures)
