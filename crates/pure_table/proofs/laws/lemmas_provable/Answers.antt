use Rattle.pure_table.proofs.DerivedLaws.{lemmas_provable as provable}
use Rattle.pure_table.proofs.laws.lemmas_provable.Goals as goal

pub returns : goal.returns
returns c = provable
