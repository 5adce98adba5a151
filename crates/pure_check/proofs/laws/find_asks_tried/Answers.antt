use Rattle.pure_check.proofs.FindLemmas.{asks-tried}
use Rattle.pure_check.proofs.laws.find_asks_tried.Goals as goal

pub returns : goal.returns
returns c = asks-tried c.built_are_named.ensures
