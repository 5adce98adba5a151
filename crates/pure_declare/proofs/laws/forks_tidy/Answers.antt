use Rattle.pure_declare.proofs.TidyDeclared.{forks_tidy}
use Rattle.pure_declare.proofs.laws.forks_tidy.Goals as goal

pub returns : goal.returns
returns c = forks_tidy
