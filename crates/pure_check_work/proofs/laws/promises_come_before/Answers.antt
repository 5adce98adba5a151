use Rattle.pure_check_work.proofs.EarlierLaws.{promises_come_before as law}
use Rattle.pure_check_work.proofs.laws.promises_come_before.Goals as goal

pub returns : goal.returns
returns c = law
