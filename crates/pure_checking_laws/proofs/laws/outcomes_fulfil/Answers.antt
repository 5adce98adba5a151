use Rattle.pure_checking_laws.proofs.FulfilLaws.{outcomes_fulfil as fulfil, rests_come_before}
use Rattle.pure_checking_laws.proofs.laws.outcomes_fulfil.Goals as goal

pub returns-clause-fulfil : goal.returns-clause-fulfil
returns-clause-fulfil c = fulfil

pub returns-clause-rests : goal.returns-clause-rests
returns-clause-rests c = rests_come_before
