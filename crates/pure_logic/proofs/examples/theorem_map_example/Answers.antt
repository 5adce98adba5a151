use Rattle.pure_logic.proofs.TheoremExamples.{instantiated_example, raised_example, raised_index_example, weaker_example}
use Rattle.pure_logic.proofs.examples.theorem_map_example.Goals as goal

pub returns-clause-instantiated : goal.returns-clause-instantiated
returns-clause-instantiated c = instantiated_example

pub returns-clause-raised : goal.returns-clause-raised
returns-clause-raised c = raised_example

pub returns-clause-raised_index : goal.returns-clause-raised_index
returns-clause-raised_index c = raised_index_example

pub returns-clause-weaker : goal.returns-clause-weaker
returns-clause-weaker c = weaker_example
