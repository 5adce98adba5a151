use Rattle.pure_logic.proofs.NodeExamples.{axiom_example, own_type_example, promise_example, no_axiom_example, no_map_example}
use Rattle.pure_logic.proofs.examples.axiom_example.Goals as goal

pub returns-clause-axiom : goal.returns-clause-axiom
returns-clause-axiom c = axiom_example

pub returns-clause-promise : goal.returns-clause-promise
returns-clause-promise c = promise_example

pub returns-clause-unknown : goal.returns-clause-unknown
returns-clause-unknown c = no_axiom_example

pub returns-clause-maps : goal.returns-clause-maps
returns-clause-maps c = no_map_example

pub returns-clause-own_type : goal.returns-clause-own_type
returns-clause-own_type c = own_type_example
