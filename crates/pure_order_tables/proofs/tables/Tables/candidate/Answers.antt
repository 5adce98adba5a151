use Rattle.pure_order_tables.proofs.ArityTableLaws.{candidate_at}
use Rattle.pure_order_tables.proofs.tables.Tables.candidate.Goals as goal

pub returns-in-Some : goal.returns-in-Some
returns-in-Some c = candidate_at c.args.self.now c.arities.result.now c.args.con c.args.class c.in-Some.place c.get-entry.result.now c.sorts.result.now c.arities.ensures.are c.get-entry.ensures c.sorts.ensures c.in-Some.ensures
