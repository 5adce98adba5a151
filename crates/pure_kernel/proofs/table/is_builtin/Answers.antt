use Rattle.pure_kernel.proofs.NameTableLaws.{told-builtin}
use Rattle.pure_kernel.proofs.table.is_builtin.Goals as goal

pub returns : goal.returns
returns c = told-builtin c.args.own.now c.args.text.now c.find.result c.is_some.result c.requires c.find.ensures c.is_some.ensures
