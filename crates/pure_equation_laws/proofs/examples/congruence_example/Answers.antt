use Rattle.pure_equation_laws.proofs.RedexExamples.{two_instances_example, functions_example, bodies_example, nodes_example}
use Rattle.pure_equation_laws.proofs.examples.congruence_example.Goals as goal

pub returns-clause-instances : goal.returns-clause-instances
returns-clause-instances c = two_instances_example

pub returns-clause-functions : goal.returns-clause-functions
returns-clause-functions c = functions_example

pub returns-clause-bodies : goal.returns-clause-bodies
returns-clause-bodies c = bodies_example

pub returns-clause-nodes : goal.returns-clause-nodes
returns-clause-nodes c = nodes_example
