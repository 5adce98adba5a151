use Rattle.pure_declare.proofs.TidyDeclared.{pure_is_tidy}
use Rattle.pure_declare.proofs.laws.pure_is_tidy.Goals as goal

pub returns : goal.returns
returns c = pure_is_tidy
