use Rattle.std.proofs.Common.{refl}
use Rattle.pure_unify_definitions.specs.Node.{Typs}
use Rattle.pure_unify_visits.proofs.retypes.node_with.Goals as goal

pub returns-clause-path : goal.returns-clause-path
returns-clause-path c p sets h k = c.in_ok-path.ensures (record p { fresh = c.args.retyping.next }) (Typs sets) (record { settings = h.settings; choices = h.choices; fresh = refl }) k
