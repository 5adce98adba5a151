use Rattle.pure_citations.proofs.KeptProofs.{proof_is_kept as law}
use Rattle.pure_citations.proofs.laws.proof_is_kept.Goals as goal

pub returns : goal.returns
returns c = law
