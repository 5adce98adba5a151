use Rattle.pure_equation_laws.proofs.NodesLaws.{equated_node_by_node, equated_instances, equated_functions, equated_bodies}
use Rattle.pure_equation_laws.proofs.laws.equated_is_congruence.Goals as goal

pub returns-clause-nodes : goal.returns-clause-nodes
returns-clause-nodes c = equated_node_by_node

pub returns-clause-instances : goal.returns-clause-instances
returns-clause-instances c = equated_instances

pub returns-clause-functions : goal.returns-clause-functions
returns-clause-functions c = equated_functions

pub returns-clause-bodies : goal.returns-clause-bodies
returns-clause-bodies c = equated_bodies
