use Rattle.std.proofs.Common.{refl}
use Rattle.pure_graph.proofs.SourceLemmas.{outside-outcome}
use Rattle.pure_graph.proofs.source.parsed_outcome.Goals as goal

pub returns-in-Outside : goal.returns-in-Outside
returns-in-Outside c =
    outside-outcome c.args.theory.now c.args.source c.args.source c.bytes.result.now c.args.parsed c.in-Outside.at c.syntax_at.result refl c.bytes.ensures c.requires.small c.requires.parsed c.in-Outside.is c.syntax_at.ensures
