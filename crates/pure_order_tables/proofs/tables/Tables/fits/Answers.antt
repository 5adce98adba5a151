use Rattle.std.proofs.Common.{◌≤◌, length, arith}
use Rattle.pure_text.proofs.AnswerLaws.{test_fails}
use Rattle.pure_order_tables.specs.ArityView.{arity_of}
use Rattle.pure_order_tables.proofs.JudgeLaws.{bare_passed, bare_put, fits_coregular, greater_all, greater_passed, greater_put}
use Rattle.pure_order_tables.proofs.UncoveredLaws.{above_greatest, within_place}
use Rattle.pure_order_tables.proofs.tables.Tables.fits.Goals as goal
use Rattle.pure_order_tables.proofs.tables.Tables.fits.Goals.{then-holds+else-not-is_above_new+in_ok-push, else-holds}

pub is_above_at-requires-clause-within : goal.is_above_at-requires-clause-within
is_above_at-requires-clause-within c = within_place c.args.self.now c.args.arity.now.con c.args.arity.now.class c.place-top.result c.place-top.ensures

pub is_above_new-requires-clause-within : goal.is_above_new-requires-clause-within
is_above_new-requires-clause-within c = within_place c.args.self.now c.args.arity.now.con c.class_name-class.result c.place-place.result c.place-place.ensures

pub loop-number-init : goal.loop-number-init
loop-number-init c = record { top = c.is_above_at.ensures.0 c.if-not-is_above_at.false; bare = λ t n before. absurd (omega (arith, before)); seen = record { above = λ d m. absurd (rw c.new-greater.ensures.items at m); seen = λ n before. absurd (omega (arith, before)) } }

pub loop-number-preserved : goal.loop-number-preserved
loop-number-preserved c = elim c.if-holds.branch [
  | then-holds+else-not-is_above_new+in_ok-push w ↦ record {
    top = rw w.top-is w.if-not-is_above_new.ensures;
    bare = rw w.bare-is (bare_put c.args.self.now c.args.arity.now.con c.args.uncovered.now c.loop-number.number w.class_name-class.result w.place-place.result c.loop-number.bare w.still_none-bare.result w.class_name-class.ensures w.place-place.ensures w.still_none-bare.ensures c.loop-number.invariant.bare);
    seen = rw w.greater-is (greater_put c.args.self.now (arity_of c.args.arity.now) _ c.args.uncovered.now c.loop-number.greater.items w.push.new.self.items c.loop-number.number w.class_name-class.result c.requires.uncovered (c.holds.ensures.0 w.if-holds.true) w.class_name-class.ensures w.in_ok-push.ensures.items
        (above_greatest c.args.self.now (arity_of c.args.arity.now) w.class_name-class.result w.place-place.result w.place-place.ensures w.if-not-is_above_new.ensures) c.loop-number.invariant.seen);
  }
  | else-holds w ↦ record {
    top = rw w.top-is c.loop-number.invariant.top;
    bare = rw w.bare-is (λ t. bare_passed c.args.self.now c.args.arity.now.con c.args.uncovered.now c.loop-number.number (test_fails _ c.holds.result c.holds.ensures w.if-holds.false) (c.loop-number.invariant.bare t));
    seen = rw w.greater-is (greater_passed c.args.self.now (arity_of c.args.arity.now) _ c.args.uncovered.now c.loop-number.greater.items c.loop-number.number (test_fails _ c.holds.result c.holds.ensures w.if-holds.false) c.loop-number.invariant.seen);
  }
]

pub is_elsewhere-requires : goal.is_elsewhere-requires
is_elsewhere-requires c t n within =
    let end : length c.args.self.now.classes ≤ c.loop-number.number = omega (arith, c.loop-number-test.false, c.class_count-number-end.ensures) in
    c.loop-number.invariant.bare t n (omega (arith, within, end))

pub returns : goal.returns
returns c =
    let end : length c.args.self.now.classes ≤ c.loop-number.number = omega (arith, c.loop-number-test.false, c.class_count-number-end.ensures) in (
      greater_all c.args.self.now c.are_in_order.ensures.ordered c.order_is_decided.ensures c.have_candidates.ensures (arity_of c.args.arity.now) (λ d. ⊥) c.args.uncovered.now c.loop-number.greater.items c.loop-number.number c.requires.declared c.requires.uncovered end (λ d n. absurd n) c.loop-number.invariant.seen,
      fits_coregular c.args.self.now c.are_in_order.ensures.ordered c.order_is_decided.ensures c.requires.coregular (arity_of c.args.arity.now) c.args.uncovered.now c.loop-number.greater.items c.loop-number.number c.requires.declared c.requires.uncovered
          (above_greatest c.args.self.now (arity_of c.args.arity.now) c.args.arity.now.class c.place-top.result c.place-top.ensures (c.is_above_at.ensures.0 c.if-not-is_above_at.false)) c.if-not-is_elsewhere.ensures end c.loop-number.invariant.seen,
    )
