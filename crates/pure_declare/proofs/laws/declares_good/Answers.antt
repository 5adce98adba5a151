use Rattle.pure_declare.proofs.GoodLaws.{declares_good}
use Rattle.pure_declare.proofs.laws.declares_good.Goals as goal

pub returns : goal.returns
returns c = declares_good
