use Rattle.pure_print.proofs.LawsLemmas.{prints_example}
use Rattle.pure_print.proofs.laws.prints_example.Goals as goal

pub returns : goal.returns
returns c = prints_example
