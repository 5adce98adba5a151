use Rattle.pure_check_work.proofs.HeedLaws.{session_is_heeded as law}
use Rattle.pure_check_work.proofs.laws.session_is_heeded.Goals as goal

pub returns : goal.returns
returns c = law
