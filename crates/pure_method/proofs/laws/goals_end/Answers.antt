use Rattle.pure_method.proofs.ClosingLaws.{closes_somehow, ends_somehow}
use Rattle.pure_method.proofs.laws.goals_end.Goals as goal

pub returns-clause-closes : goal.returns-clause-closes
returns-clause-closes c Q k s rests h = closes_somehow Q k rests s h

pub returns-clause-ends : goal.returns-clause-ends
returns-clause-ends c = ends_somehow
