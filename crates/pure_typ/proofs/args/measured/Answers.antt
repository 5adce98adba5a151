use Rattle.std.proofs.Common.{arith}
use Rattle.pure_definitions.proofs.TypsLemmas.{typs_size-take, typs_depth-take}
use Rattle.pure_definitions.proofs.MeasureLemmas.{typs_index_above-take, are_ground-take}
use Rattle.pure_typ.proofs.args.measured.Goals as goal

pub loop-typ-preserved : goal.loop-typ-preserved
loop-typ-preserved c =
    let size = typs_size-take c.args.types.now c.loop-typ.typ-index c.typ-item.result c.loop-typ-test.true c.typ-item.is in
    let depth = typs_depth-take c.args.types.now c.loop-typ.typ-index c.typ-item.result c.loop-typ-test.true c.typ-item.is in
    let above = typs_index_above-take c.args.types.now c.loop-typ.typ-index c.typ-item.result c.loop-typ-test.true c.typ-item.is in
    let ground = are_ground-take c.args.types.now c.loop-typ.typ-index c.typ-item.result c.loop-typ-test.true c.typ-item.is in
    let s = c.loop-typ.invariant.size in
    let d = c.loop-typ.invariant.depth in
    let a = c.loop-typ.invariant.above in
    let g = c.loop-typ.invariant.ground in
    record { size = omega arith; depth = omega arith; above = omega arith; ground = cc }
