use Rattle.pure_order_tables.proofs.TwiceLaws.{above_none}
use Rattle.pure_order_tables.proofs.tables.Tables.twice_above.Goals as goal

pub returns-then-classes-le-FEW : goal.returns-then-classes-le-FEW
returns-then-classes-le-FEW c = above_none c.args.self.now c.args.s.now _ c.new.ensures.items
