use Rattle.pure_order_tables.proofs.JudgeLaws.{elsewhere}
use Rattle.pure_order_tables.proofs.tables.Tables.is_elsewhere.Goals as goal

pub returns-then-bare : goal.returns-then-bare
returns-then-bare c = elsewhere c.args.self.now c.args.con c.args.row.now c.are_in_order.ensures.known (c.requires c.if-bare.true)
