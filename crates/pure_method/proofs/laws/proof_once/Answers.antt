use Rattle.pure_method.proofs.OnceLaws.{proof-once}
use Rattle.pure_method.proofs.laws.proof_once.Goals as goal

pub returns : goal.returns
returns c = proof-once
