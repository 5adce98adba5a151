use Rattle.pure_order_tables.proofs.KeptLaws.{kept_entry}
use Rattle.pure_order_tables.proofs.tables.Tables.kept.Goals as goal

pub returns-clause-kept : goal.returns-clause-kept
returns-clause-kept c = kept_entry c.args.self.now.classes c.args.arity.now c.in_ok-kept.kept c.sorts.result.now c.in_ok-rows.rows c.in_ok-kept.ensures.same c.in_ok-kept.ensures.rows c.sorts.ensures c.in_ok-rows.ensures
