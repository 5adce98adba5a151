use Rattle.pure_method.proofs.FaultLaws.{never-memory}
use Rattle.pure_method.proofs.laws.never_memory.Goals as goal

pub returns : goal.returns
returns c = never-memory
