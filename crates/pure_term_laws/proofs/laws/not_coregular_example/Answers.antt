use Rattle.pure_term_laws.proofs.OrderExamples.{crossing_is_not_coregular, uneven_is_not_coregular, open_fork_is_not_coregular, falling_is_not_coregular}
use Rattle.pure_term_laws.proofs.laws.not_coregular_example.Goals as goal

pub returns-clause-crossing : goal.returns-clause-crossing
returns-clause-crossing c = crossing_is_not_coregular

pub returns-clause-uneven : goal.returns-clause-uneven
returns-clause-uneven c = uneven_is_not_coregular

pub returns-clause-open_fork : goal.returns-clause-open_fork
returns-clause-open_fork c = open_fork_is_not_coregular

pub returns-clause-falling : goal.returns-clause-falling
returns-clause-falling c = falling_is_not_coregular
