use Rattle.pure_term_laws.proofs.LimitLaws.{limits_example}
use Rattle.pure_term_laws.proofs.laws.size_example.Goals as goal

pub returns-clause-limits : goal.returns-clause-limits
returns-clause-limits c = limits_example
