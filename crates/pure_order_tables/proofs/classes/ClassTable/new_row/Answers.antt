use Rattle.std.proofs.Common.{◌≡◌, ◌∙◌, ◌+◌, ◌-◌, ◌<◌, length, arith}
use Rattle.pure_order_tables.proofs.ClassTableLaws.{so_far_start, so_far_put, so_far_kept, so_far_passed, so_far_all}
use Rattle.pure_order_tables.proofs.classes.ClassTable.new_row.Goals as goal
use Rattle.pure_order_tables.proofs.classes.ClassTable.new_row.Goals.{then-holds_only, else-holds_only}

pub loop-end-init : goal.loop-end-init
loop-end-init c = record {
  within = omega (arith, c.count-last.ensures);
  so_far = λ above has. so_far_start c.args.self.now above c.args.numbers.now c.in_ok-row.row.items c.put_place.new.row.items c.count-last.result c.count-last.ensures has (c.put_place.ensures.count ∙ c.in_ok-row.ensures.count) c.in_ok-row.ensures.none c.put_place.ensures.held;
}

pub loop-end-preserved : goal.loop-end-preserved
loop-end-preserved c =
    let next : c.loop-end.end - 1 + 1 ≡ c.loop-end.end = omega (arith, c.loop-end-test.true) in
    let within : c.loop-end.end - 1 < length c.args.self.now = omega (arith, c.loop-end-test.true, c.loop-end.invariant.within) in
    record {
      within = omega (arith, within, c.end_below-end.ensures.below);
      so_far = λ above has. so_far_passed c.args.self.now above c.args.numbers.now c.if-holds_only.row.items (c.loop-end.end - 1) c.end_below-end.result (rw c.as_slice-in-loop-end.ensures.value at c.end_below-end.ensures.passed)
          (elim c.if-holds_only.branch [
            | then-holds_only w ↦ rw w.row-is (so_far_put c.args.self.now above c.args.numbers.now c.loop-end.row.items w.row_of.result.now w.put_row.new.row.items c.loop-end.end (c.loop-end.end - 1) has next w.if-holds_only.ensures.0 w.row_of.ensures w.put_row.ensures.held w.put_row.ensures.count (c.loop-end.invariant.so_far above has))
            | else-holds_only w ↦ rw w.row-is (so_far_kept c.args.self.now above c.args.numbers.now c.loop-end.row.items c.loop-end.end (c.loop-end.end - 1) next (rw c.as_slice.ensures.value at w.if-holds_only.ensures) (c.loop-end.invariant.so_far above has))
          ]);
    }

pub returns : goal.returns
returns c above has = so_far_all c.args.self.now above c.args.numbers.now c.loop-end.row.items c.loop-end.end has c.loop-end-test.false (c.loop-end.invariant.so_far above has)
