use Rattle.std.proofs.Common.{arith}
use Rattle.pure_order_tables.proofs.tables.Tables.is_below_few.Goals as goal

pub returns : goal.returns
returns c = c.is_row_below.ensures c.args.first.now (c.requires.row (omega arith))
