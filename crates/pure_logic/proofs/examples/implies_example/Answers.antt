use Rattle.pure_logic.proofs.NodeExamples.{assume_example, implies_intro_example, twice_assumed_example, implies_elim_example}
use Rattle.pure_logic.proofs.examples.implies_example.Goals as goal

pub returns-clause-assume : goal.returns-clause-assume
returns-clause-assume c = assume_example

pub returns-clause-intro : goal.returns-clause-intro
returns-clause-intro c = implies_intro_example

pub returns-clause-elim : goal.returns-clause-elim
returns-clause-elim c = implies_elim_example

pub returns-clause-twice : goal.returns-clause-twice
returns-clause-twice c = twice_assumed_example
