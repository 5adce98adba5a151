use Rattle.pure_declare.proofs.EndLaws.{one_command_of_lemma}
use Rattle.pure_declare.proofs.laws.one_command_of_lemma.Goals as goal

pub returns : goal.returns
returns c = one_command_of_lemma
