use Rattle.std.proofs.Common.{subst}
use Rattle.pure_graph.specs.Drafts.{IsKnownOf}
use Rattle.pure_graph.specs.Seen.{seen_outcome}
use Rattle.pure_graph.proofs.FilesLemmas.{read-file}
use Rattle.pure_graph.proofs.drafts.said.Goals as goal

pub returns-in-Ok : goal.returns-in-Ok
returns-in-Ok c told place known =
    let read = subst (IsKnownOf told place c.args.theory.now) c.in-Read.is known in
    read-file told c.args.theory.now place c.in-Read.bytes (seen_outcome c.in-Ok.outcome) read.0 read.1 c.in-Ok.ensures.ok
