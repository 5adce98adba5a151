use Rattle.pure_declare.proofs.TidyDeclared.{declares_tidy}
use Rattle.pure_declare.proofs.laws.declares_tidy.Goals as goal

pub returns : goal.returns
returns c = declares_tidy
