use Rattle.std.proofs.Common.{◌≡◌, ◌+◌, ◌-◌, ◌<◌, length, arith}
use Rattle.pure_order_tables.proofs.ClassTableLaws.{others_kept, others_passed, others_put}
use Rattle.pure_order_tables.proofs.classes.ClassTable.put_others.Goals as goal
use Rattle.pure_order_tables.proofs.classes.ClassTable.put_others.Goals.{then-holds_only+in_ok-put, else-holds_only}

pub loop-end-preserved : goal.loop-end-preserved
loop-end-preserved c =
    let next : c.loop-end.end - 1 + 1 ≡ c.loop-end.end = omega (arith, c.loop-end-test.true) in
    let within : c.loop-end.end - 1 < length c.args.self.now = omega (arith, c.loop-end-test.true, c.loop-end.invariant.within) in
    record {
      within = omega (arith, within, c.end_below-end.ensures.below);
      ascend = elim c.if-holds_only.branch [
        | then-holds_only+in_ok-put w ↦ rw w.names-is w.put.ensures.ascend
        | else-holds_only w ↦ rw w.names-is c.loop-end.invariant.ascend
      ];
      has = others_passed c.args.self.now c.args.row.now c.args.seen.now c.args.names.now.items c.if-holds_only.names.items (c.loop-end.end - 1) c.end_below-end.result c.end_below-end.ensures.below c.end_below-end.ensures.passed
          (elim c.if-holds_only.branch [
            | then-holds_only+in_ok-put w ↦ rw w.names-is (others_put c.args.self.now c.args.row.now c.args.seen.now c.args.names.now.items c.loop-end.names.items w.put.new.names.items c.loop-end.end (c.loop-end.end - 1) w.name.result next within w.name.ensures w.if-holds_only.ensures.0 w.if-holds_only.ensures.1 w.in_ok-put.ensures.has c.loop-end.invariant.has)
            | else-holds_only w ↦ rw w.names-is (others_kept c.args.self.now c.args.row.now c.args.seen.now c.args.names.now.items c.loop-end.names.items c.loop-end.end (c.loop-end.end - 1) next w.if-holds_only.ensures c.loop-end.invariant.has)
          ]);
    }

pub returns-clause-has : goal.returns-clause-has
returns-clause-has c = let over : c.loop-end.end ≡ 0 = omega (arith, c.loop-end-test.false) in rw over at c.loop-end.invariant.has
