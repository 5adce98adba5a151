use Rattle.pure_tunify.proofs.MeetLaws.{each_is_asked as lemma}
use Rattle.pure_tunify.proofs.laws.each_is_asked.Goals as goal

pub returns : goal.returns
returns c = lemma
