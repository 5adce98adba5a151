use Rattle.pure_theory_tables.proofs.IndexLaws.{no_index}
use Rattle.pure_theory_tables.proofs.index.Index.empty.Goals as goal

pub returns : goal.returns
returns c = no_index _ c.empty-2.ensures c.empty-3.ensures c.empty-4.ensures
