use Rattle.std.proofs.Common.{◌<◌, length, sym, ◌∙◌, arith}
use Rattle.pure_definitions.proofs.TypsLemmas.{typ_depth-item, typs_cmp-shorter}
use Rattle.pure_typ.proofs.typ.+compare_typ.Goals as goal

pub compare_args-compare_typs-requires : goal.compare_args-compare_typs-requires
compare_args-compare_typs-requires t c =
    let inside = typ_depth-item c.args.ts.now c.loop-i.i c.index-ts-i.result c.loop-i-test.true c.index-ts-i.is in
    (omega arith, tt)

pub compare_args-returns-then-ts-us : goal.compare_args-returns-then-ts-us
compare_args-returns-then-ts-us t c =
    let more : c.loop-i.i < length c.args.us.now = omega arith in
    sym (c.loop-i.invariant ∙ typs_cmp-shorter c.args.ts.now c.args.us.now c.loop-i.i c.loop-i-test.false more)
