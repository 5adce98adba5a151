use Rattle.std.proofs.Common.{refl}
use Rattle.pure_check.proofs.GraphLemmas.{graph-text}
use Rattle.pure_check.proofs.graphed.with_names.Goals as goal

pub returns-clause-ok : goal.returns-clause-ok
returns-clause-ok g c = graph-text c.args.session c.args.workers _ refl c.args.theories c.requires.names _ refl c.session_answer.result c.session_answer.ensures.ok
