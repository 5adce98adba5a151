use Rattle.std.proofs.Common.{take, drop, ◌+◌}
use Rattle.pure_text.proofs.AnswerLaws.{test_fails}
use Rattle.pure_text.proofs.ListLaws.{split_at}
use Rattle.pure_order_tables.proofs.tables.Tables.first_unknown.Goals as goal

pub returns-then-not-is_declared : goal.returns-then-not-is_declared
returns-then-not-is_declared c = record {
  front = take c.loop-name.name-index c.args.names.now;
  rest = drop (c.loop-name.name-index + 1) c.args.names.now;
  is = split_at c.args.names.now c.loop-name.name-index c.name-item.result c.loop-name-test.true c.name-item.is;
  declared = c.loop-name.invariant;
  unknown = test_fails _ c.is_declared.result c.is_declared.ensures c.if-not-is_declared.true;
}
