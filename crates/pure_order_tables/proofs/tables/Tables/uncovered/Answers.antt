use Rattle.std.proofs.Common.{◌≡◌, ◌+◌, ◌-◌, ◌<◌, length, inl, inr, arith}
use Rattle.pure_order_tables.specs.ArityView.{arity_of}
use Rattle.pure_order_tables.specs.Uncovered.{IsUpRow}
use Rattle.pure_order_tables.proofs.UncoveredLaws.{bare_at, below_covers, own_row, turn_bare, turn_covered, turn_passed, uncovered_all, uncovered_passed, uncovered_start, within_place}
use Rattle.pure_order_tables.proofs.tables.Tables.uncovered.Goals as goal
use Rattle.pure_order_tables.proofs.tables.Tables.uncovered.Goals.{then-holds_only+then-is_below_new, then-holds_only+else-is_below_new, else-holds_only}

pub is_below_new-requires-clause-within : goal.is_below_new-requires-clause-within
is_below_new-requires-clause-within c = within_place c.args.other.now c.args.arity.now.con c.class_name.result c.place-place.result c.place-place.ensures

pub loop-end-init : goal.loop-end-init
loop-end-init c = record {
  within = omega (arith, c.class_count-count.ensures);
  bare = λ h. h;
  seen = uncovered_start c.args.self.now c.args.other.now (arity_of c.args.arity.now) c.in_ok-row.row.items c.in_ok-covered.covered.items c.class_count-count.result c.class_count-count.ensures c.in_ok-row.ensures.count c.in_ok-covered.ensures.count c.in_ok-row.ensures.none c.in_ok-covered.ensures.none;
}

pub loop-end-preserved : goal.loop-end-preserved
loop-end-preserved c =
    let next : c.loop-end.end - 1 + 1 ≡ c.loop-end.end = omega (arith, c.loop-end-test.true) in
    let within : c.loop-end.end - 1 < length c.args.self.now.classes = omega (arith, c.loop-end-test.true, c.loop-end.invariant.within) in
    let up : IsUpRow c.args.self.now c.args.arity.now.class c.row_of-up.result.now = own_row c.args.self.now c.args.arity.now.class c.number_of.result c.row_of-up.result.now c.number_of.ensures c.row_of-up.ensures in
    record {
      within = omega (arith, within, c.end_below-end.ensures.below);
      bare = elim c.if-holds_only.branch [
        | then-holds_only+then-is_below_new w ↦ rw w.bare-is c.loop-end.invariant.bare
        | then-holds_only+else-is_below_new w ↦ rw w.bare-is w.if-is_below_new.ensures
        | else-holds_only w ↦ rw w.bare-is c.loop-end.invariant.bare
      ];
      seen = uncovered_passed c.args.self.now c.args.other.now (arity_of c.args.arity.now) c.row_of-up.result.now c.if-holds_only.row.items c.if-holds_only.covered.items (c.loop-end.end - 1) c.end_below-end.result up (rw c.as_slice-in-loop-end.ensures.value at c.end_below-end.ensures.passed)
          (elim c.if-holds_only.branch [
            | then-holds_only+then-is_below_new w ↦ rw (w.row-is, w.covered-is) (turn_covered c.args.self.now c.args.other.now c.requires.extends (arity_of c.args.arity.now) c.loop-end.row.items c.loop-end.covered.items w.put_row.new.row.items w.row_of.result.now c.loop-end.end (c.loop-end.end - 1) next
                (rw w.class_name.ensures at (below_covers c.args.self.now c.args.other.now (arity_of c.args.arity.now) w.class_name.result w.place-place.result w.place-place.ensures w.if-is_below_new.ensures)) w.row_of.ensures w.put_row.ensures.held w.put_row.ensures.count c.loop-end.invariant.seen)
            | then-holds_only+else-is_below_new w ↦ rw (w.row-is, w.covered-is) (turn_bare c.args.self.now c.args.other.now (arity_of c.args.arity.now) c.loop-end.row.items w.put_place.new.row.items c.loop-end.covered.items c.loop-end.end (c.loop-end.end - 1) next within
                ((up (c.loop-end.end - 1)).0 w.if-holds_only.ensures.0).1
                (rw w.class_name.ensures at (bare_at c.args.self.now c.args.other.now c.requires.extends c.order_is_decided.ensures (arity_of c.args.arity.now) w.class_name.result w.place-place.result w.place-place.ensures w.if-is_below_new.ensures)) w.put_place.ensures.held w.put_place.ensures.count c.loop-end.invariant.seen)
            | else-holds_only w ↦ rw (w.row-is, w.covered-is) (turn_passed c.args.self.now c.args.other.now (arity_of c.args.arity.now) c.loop-end.row.items c.loop-end.covered.items c.loop-end.end (c.loop-end.end - 1) next
                (elim w.if-holds_only.ensures [ inl not ↦ inl (λ h. not ((up (c.loop-end.end - 1)).1 (within, h))) | inr held ↦ inr (rw c.as_slice.ensures.value at held) ])
                c.loop-end.invariant.seen)
          ]);
    }

pub returns : goal.returns
returns c = uncovered_all c.args.self.now c.args.other.now (arity_of c.args.arity.now) c.loop-end.row.items c.loop-end.covered.items c.loop-end.end c.loop-end-test.false c.loop-end.invariant.seen
