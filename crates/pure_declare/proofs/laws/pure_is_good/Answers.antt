use Rattle.pure_declare.proofs.GoodLaws.{pure_is_good}
use Rattle.pure_declare.proofs.laws.pure_is_good.Goals as goal

pub returns : goal.returns
returns c = pure_is_good
