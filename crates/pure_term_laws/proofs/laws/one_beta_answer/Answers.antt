use Rattle.pure_term_laws.proofs.BetaLaws.{some_beta_answer, one_beta_answer as once}
use Rattle.pure_term_laws.proofs.laws.one_beta_answer.Goals as goal

pub returns-clause-some : goal.returns-clause-some
returns-clause-some c = some_beta_answer

pub returns-clause-one : goal.returns-clause-one
returns-clause-one c = once
