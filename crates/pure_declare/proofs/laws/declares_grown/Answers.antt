use Rattle.pure_declare.proofs.GrownLaws.{declares_grown}
use Rattle.pure_declare.proofs.laws.declares_grown.Goals as goal

pub returns : goal.returns
returns c = declares_grown
