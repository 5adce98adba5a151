use Rattle.pure_theory_tables.proofs.IndexLaws.{same_index, other_added}
use Rattle.pure_theory_tables.proofs.index.Index.share.Goals as goal

pub returns-clause-same : goal.returns-clause-same
returns-clause-same c = same_index c.args.self.now _ c.in_ok-labels.ensures c.in_ok-typs.ensures c.in_ok-consts.ensures c.in_ok-facts.ensures

pub returns-clause-other : goal.returns-clause-other
returns-clause-other c = other_added c.args.self.now _ c.in_ok-labels.ensures c.in_ok-typs.ensures c.in_ok-consts.ensures c.in_ok-facts.ensures
