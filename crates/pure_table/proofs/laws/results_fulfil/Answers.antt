use Rattle.pure_table.proofs.FulfilledLaws.{results_fulfil as fulfil}
use Rattle.pure_table.proofs.laws.results_fulfil.Goals as goal

pub returns : goal.returns
returns c = fulfil
