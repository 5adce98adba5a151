use Rattle.std.proofs.Common.{length, arith, ap}
use Rattle.pure_order_tables.proofs.KeptLaws.{rows_all, rows_turn}
use Rattle.pure_order_tables.proofs.tables.Tables.kept_rows.Goals as goal

pub loop-sort-init : goal.loop-sort-init
loop-sort-init c = record { count = ap length c.new-rows.ensures.items; at = λ j before. absurd (omega (arith, before)) }

pub loop-sort-preserved : goal.loop-sort-preserved
loop-sort-preserved c = rows_turn c.args.self.now.classes c.args.sorts.now c.loop-sort.rows.items c.push.new.self.items c.loop-sort.sort-index c.sort-item.result c.in_ok-kept_row.field-0 c.loop-sort-test.true c.sort-item.is c.in_ok-push.ensures.items c.in_ok-kept_row.ensures c.loop-sort.invariant

pub returns : goal.returns
returns c = record { at = λ j. rw c.in_ok-rows.ensures.ok (rows_all c.args.self.now.classes c.args.sorts.now c.loop-sort.rows.items c.loop-sort.sort-index j c.loop-sort-test.false c.loop-sort.invariant) }
