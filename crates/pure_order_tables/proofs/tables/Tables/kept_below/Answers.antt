use Rattle.std.proofs.Common.{arith}
use Rattle.pure_order_tables.proofs.KeptLaws.{from_row, rows_below}
use Rattle.pure_order_tables.proofs.tables.Tables.kept_below.Goals as goal

pub is_below_row_of-requires : goal.is_below_row_of-requires
is_below_row_of-requires c = c.requires.second.row (omega arith)

pub returns : goal.returns
returns c = rows_below c.args.self.now c.args.first.now c.args.second.now c.args.lower.now c.args.upper.now c.within.result (from_row c.args.self.now c.args.first.now c.args.lower.now (c.requires.first.row (omega arith))) (c.requires.second.row (omega arith)) c.within.ensures
