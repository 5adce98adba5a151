use Rattle.std.proofs.Common.{arith}
use Rattle.pure_kernel.proofs.NameTableLaws.{session-texts}
use Rattle.pure_kernel.proofs.table.named.Goals as goal

pub of_list-requires : goal.of_list-requires
of_list-requires c = session-texts c.args.texts c.requires.ascend c.requires.others (omega (arith, c.len.ensures))
