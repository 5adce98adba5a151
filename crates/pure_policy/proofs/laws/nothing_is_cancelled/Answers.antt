use Rattle.pure_policy.proofs.NothingLaws.{nothing_cancelled as law}
use Rattle.pure_policy.proofs.laws.nothing_is_cancelled.Goals as goal

pub returns : goal.returns
returns c = law
