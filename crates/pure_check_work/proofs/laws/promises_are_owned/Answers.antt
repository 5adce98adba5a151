use Rattle.pure_check_work.proofs.OwnedLaws.{promises_are_owned as law}
use Rattle.pure_check_work.proofs.laws.promises_are_owned.Goals as goal

pub returns : goal.returns
returns c = law
