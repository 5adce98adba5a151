use Rattle.pure_certify.proofs.PartLemmas.{certified_typ_exactly as exactly}
use Rattle.pure_certify.proofs.laws.certified_typ_exactly.Goals as goal

pub returns : goal.returns
returns c = exactly
