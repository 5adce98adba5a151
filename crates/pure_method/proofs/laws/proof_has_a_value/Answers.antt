use Rattle.pure_method.proofs.ValueLaws.{proof_has_a_value}
use Rattle.pure_method.proofs.laws.proof_has_a_value.Goals as goal

pub returns : goal.returns
returns c = proof_has_a_value
