use Rattle.pure_tunify.proofs.MeetLaws.{asked_has_instance as lemma}
use Rattle.pure_tunify.proofs.laws.asked_has_instance.Goals as goal

pub returns : goal.returns
returns c = lemma
