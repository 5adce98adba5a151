use Rattle.pure_table.proofs.JoinLaws.{entries_may_join as join}
use Rattle.pure_table.proofs.laws.entries_may_join.Goals as goal

pub returns : goal.returns
returns c = join
