use Rattle.pure_logic.proofs.ConsistencyLaws.{consistent_exactly as exactly}
use Rattle.pure_logic.proofs.laws.consistent_exactly.Goals as goal

pub returns : goal.returns
returns c = exactly
