use Rattle.pure_declare.proofs.EndLaws.{lemmas_refused}
use Rattle.pure_declare.proofs.laws.lemmas_refused.Goals as goal

pub returns : goal.returns
returns c = lemmas_refused
