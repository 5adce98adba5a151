use Rattle.pure_pattern_laws.proofs.OnceLaws.{one_answer}
use Rattle.pure_pattern_laws.proofs.SomeLaws.{some_answer}
use Rattle.pure_pattern_laws.proofs.laws.one_answer.Goals as goal

pub returns-clause-one : goal.returns-clause-one
returns-clause-one c = one_answer

pub returns-clause-some : goal.returns-clause-some
returns-clause-some c = some_answer
