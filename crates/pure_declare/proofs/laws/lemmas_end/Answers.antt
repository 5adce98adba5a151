use Rattle.pure_declare.proofs.EndLaws.{lemmas_end}
use Rattle.pure_declare.proofs.laws.lemmas_end.Goals as goal

pub returns : goal.returns
returns c = lemmas_end
