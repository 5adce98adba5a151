use Rattle.pure_tunify.proofs.OneAnswerLaws.{unifies_one}
use Rattle.pure_tunify.proofs.laws.procedure_has_one_outcome.Goals as goal

pub returns : goal.returns
returns c = λ A anti index from pairs first second f g. unifies_one A anti index f g
