use Rattle.pure_unify_definitions.specs.Node.{further}
use Rattle.pure_unify_visits.proofs.settings.set.Goals as goal

pub returns-clause-node : goal.returns-clause-node
returns-clause-node c n s e h k = c.scan_of.ensures.node (record n { path = further n.path s }) (record { pairs = e; path = c.in_ok-path.ensures n.path s h k })
