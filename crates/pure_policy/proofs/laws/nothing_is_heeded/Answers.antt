use Rattle.pure_policy.proofs.NothingLaws.{nothing_heeded as law}
use Rattle.pure_policy.proofs.laws.nothing_is_heeded.Goals as goal

pub returns : goal.returns
returns c = law
