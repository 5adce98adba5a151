use Rattle.pure_solutions.proofs.EndLaws.{ends_of_bodies, ends_of_abstractions, ends_of_applications}
use Rattle.pure_solutions.proofs.laws.ends_of_parts.Goals as goal

pub returns-clause-bodies : goal.returns-clause-bodies
returns-clause-bodies c = ends_of_bodies

pub returns-clause-abstractions : goal.returns-clause-abstractions
returns-clause-abstractions c = ends_of_abstractions

pub returns-clause-applications : goal.returns-clause-applications
returns-clause-applications c = ends_of_applications
