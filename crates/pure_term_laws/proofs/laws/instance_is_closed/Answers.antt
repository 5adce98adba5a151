use Rattle.pure_term_laws.proofs.OccursLaws.{instance_is_closed as is_closed}
use Rattle.pure_term_laws.proofs.laws.instance_is_closed.Goals as goal

pub returns : goal.returns
returns c = is_closed
