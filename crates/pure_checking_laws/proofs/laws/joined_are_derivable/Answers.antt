use Rattle.pure_checking_laws.proofs.JoinedLaws.{joined_are_derivable as law}
use Rattle.pure_checking_laws.proofs.laws.joined_are_derivable.Goals as goal

pub returns : goal.returns
returns c = law
