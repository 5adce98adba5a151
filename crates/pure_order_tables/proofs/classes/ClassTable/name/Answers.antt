use Rattle.std.proofs.Common.{sym}
use Rattle.pure_order_tables.proofs.classes.ClassTable.name.Goals as goal

pub returns : goal.returns
returns c = sym c.numbered.ensures.named.named
