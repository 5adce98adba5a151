use Rattle.pure_eta.proofs.FormLaws.{expanded_argument_example as law}
use Rattle.pure_eta.proofs.laws.expanded_argument_example.Goals as goal

pub returns : goal.returns
returns c = law
