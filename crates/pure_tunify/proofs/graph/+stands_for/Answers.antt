use Rattle.std.proofs.Common.{arith, map, get_or}
use Rattle.pure_definitions.proofs.TypsLemmas.{typ_depth-item}
use Rattle.pure_tunify.specs.GraphCode.{part_of}
use Rattle.pure_tunify.proofs.GraphBuildLaws.{stand_turn, stand_all}
use Rattle.pure_tunify.proofs.GraphClassLaws.{number_read}
use Rattle.pure_tunify.proofs.ReachLaws.{on_true}
use Rattle.pure_tunify.proofs.graph.+stands_for.Goals as goal

pub stand_for_each-stands_for-requires : goal.stand_for_each-stands_for-requires
stand_for_each-stands_for-requires t c =
    let inside = typ_depth-item c.args.types.now c.loop-i.i c.index-types-i.result c.loop-i-test.true c.index-types-i.is in
    omega arith

pub stand_for_each-loop-i-preserved : goal.stand_for_each-loop-i-preserved
stand_for_each-loop-i-preserved t c =
    stand_turn (map part_of c.args.nodes.now) c.args.kids.now c.args.types.now c.loop-i.i (get_or c.args.kids.now c.loop-i.i 0) c.index-types-i.result (omega (arith, c.if-kids-types.false)) c.loop-i-test.true
    (number_read c.args.kids.now c.loop-i.i (omega (arith, c.if-kids-types.false))) c.index-types-i.is c.loop-i.invariant (on_true _ c.stands_for.result c.stands_for.ensures c.if-not-stands_for.false)

pub stand_for_each-returns : goal.stand_for_each-returns
stand_for_each-returns t c = stand_all (map part_of c.args.nodes.now) c.args.kids.now c.args.types.now c.loop-i.i (omega (arith, c.if-kids-types.false)) (omega (arith, c.loop-i-test.false)) c.loop-i.invariant
