use Rattle.pure_certify.proofs.TermLemmas.{certified-exactly}
use Rattle.pure_certify.proofs.laws.certified_exactly.Goals as goal

pub returns : goal.returns
returns c = certified-exactly
