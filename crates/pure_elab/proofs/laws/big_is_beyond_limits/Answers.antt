use Rattle.pure_elab.proofs.GeneralLaws.{big_is_beyond_limits as lemma}
use Rattle.pure_elab.proofs.laws.big_is_beyond_limits.Goals as goal

pub returns : goal.returns
returns c = lemma
