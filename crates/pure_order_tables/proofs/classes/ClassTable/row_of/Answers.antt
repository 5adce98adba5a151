use Rattle.std.proofs.Common.{sym}
use Rattle.pure_order_tables.specs.ClassTable.{name_at}
use Rattle.pure_order_tables.proofs.ClassTableLaws.{row_at}
use Rattle.pure_order_tables.proofs.classes.ClassTable.row_of.Goals as goal

pub returns : goal.returns
returns c = row_at c.args.self.now c.numbered.result.now (name_at c.args.self.now c.args.number) c.as_slice.result.now (sym c.numbered.ensures.named.named) c.as_slice.ensures.value c.numbered.ensures.entry
