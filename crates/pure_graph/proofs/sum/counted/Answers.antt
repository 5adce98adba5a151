use Rattle.pure_graph.specs.Seen.{seen_outcome}
use Rattle.pure_graph.proofs.SumLemmas.{counted-past, counted-within}
use Rattle.pure_graph.proofs.sum.counted.Goals as goal

pub returns-in_default-clause-said : goal.returns-in_default-clause-said
returns-in_default-clause-said c = counted-past c.args.before.now (seen_outcome c.args.outcome) c.in_default.ensures

pub returns-clause-said : goal.returns-clause-said
returns-clause-said c = counted-within c.args.before.now (seen_outcome c.args.outcome) c.in-Some.ensures.0
