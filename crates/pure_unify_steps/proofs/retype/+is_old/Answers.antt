use Rattle.std.proofs.Common.{arith}
use Rattle.pure_definitions.proofs.TypsLemmas.{typ_depth-item}
use Rattle.pure_unify_steps.proofs.LoopLaws.{none_fresh_more, some_fresh}
use Rattle.pure_unify_steps.proofs.StaysLaws.{none_fresh_below}
use Rattle.pure_unify_steps.proofs.retype.+is_old.Goals as goal

pub is_old-returns-then-index_above_of_typ-from : goal.is_old-returns-then-index_above_of_typ-from
is_old-returns-then-index_above_of_typ-from t c = none_fresh_below c.args.index c.args.from c.args.t.now (omega arith)

pub are_old-is_old-requires : goal.are_old-is_old-requires
are_old-is_old-requires t c =
    let inside = typ_depth-item c.args.types.now c.loop-typ.typ-index c.typ-item.result c.loop-typ-test.true c.typ-item.is in
    (omega arith, tt)

pub are_old-returns-then-not-is_old : goal.are_old-returns-then-not-is_old
are_old-returns-then-not-is_old t c =
    some_fresh c.args.index c.args.from c.args.types.now c.loop-typ.typ-index c.typ-item.result c.loop-typ-test.true c.typ-item.is (rw c.if-not-is_old.true at c.is_old.ensures)

pub are_old-loop-typ-preserved : goal.are_old-loop-typ-preserved
are_old-loop-typ-preserved t c =
    none_fresh_more c.args.index c.args.from c.args.types.now c.loop-typ.typ-index c.typ-item.result c.loop-typ-test.true c.typ-item.is c.loop-typ.invariant (rw c.if-not-is_old.false at c.is_old.ensures)
