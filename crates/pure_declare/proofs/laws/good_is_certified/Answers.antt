use Rattle.pure_declare.proofs.GoodLaws.{good_is_certified}
use Rattle.pure_declare.proofs.laws.good_is_certified.Goals as goal

pub returns : goal.returns
returns c = good_is_certified
