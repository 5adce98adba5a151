use Rattle.pure_sorts_rows.proofs.ListLemmas.{algebra-listed}
use Rattle.pure_sorts_rows.proofs.listed.ListedTables.order.Goals as goal

pub returns : goal.returns
returns c = algebra-listed c.args.self.now.order c.args.self.now.cons.items c.args.self.now.consts.items
