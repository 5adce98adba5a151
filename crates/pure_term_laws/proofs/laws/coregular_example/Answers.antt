use Rattle.pure_term_laws.proofs.OrderExamples.{joined_fork_is_coregular}
use Rattle.pure_term_laws.proofs.laws.coregular_example.Goals as goal

pub returns : goal.returns
returns c = joined_fork_is_coregular
