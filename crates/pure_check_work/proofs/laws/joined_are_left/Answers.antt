use Rattle.pure_check_work.proofs.TableLaws.{joined_are_left as law}
use Rattle.pure_check_work.proofs.laws.joined_are_left.Goals as goal

pub returns : goal.returns
returns c = law
