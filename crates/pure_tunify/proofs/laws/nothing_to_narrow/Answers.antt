use Rattle.pure_tunify.proofs.MeetLaws.{nothing_to_narrow as lemma, only_there}
use Rattle.pure_tunify.proofs.laws.nothing_to_narrow.Goals as goal

pub returns-clause-there : goal.returns-clause-there
returns-clause-there c = lemma

pub returns-clause-only_there : goal.returns-clause-only_there
returns-clause-only_there c = only_there
