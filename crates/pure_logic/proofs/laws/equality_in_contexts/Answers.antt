use Rattle.pure_logic.proofs.EqualityLaws.{equal_in_context, equal_bodies}
use Rattle.pure_logic.proofs.QuantificationLaws.{abstraction_is_derivable}
use Rattle.pure_logic.proofs.laws.equality_in_contexts.Goals as goal

pub returns-clause-context : goal.returns-clause-context
returns-clause-context c = equal_in_context

pub returns-clause-bodies : goal.returns-clause-bodies
returns-clause-bodies c = equal_bodies

pub returns-clause-abstraction : goal.returns-clause-abstraction
returns-clause-abstraction c = abstraction_is_derivable
