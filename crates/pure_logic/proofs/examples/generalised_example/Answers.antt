use Rattle.pure_logic.proofs.TheoremExamples.{generalised_example, generalised_typ_example, statement_example, index_example, nothing_fixed_example}
use Rattle.pure_logic.proofs.examples.generalised_example.Goals as goal

pub returns-clause-generalised : goal.returns-clause-generalised
returns-clause-generalised c = generalised_example

pub returns-clause-of_type : goal.returns-clause-of_type
returns-clause-of_type c = generalised_typ_example

pub returns-clause-statement : goal.returns-clause-statement
returns-clause-statement c = statement_example

pub returns-clause-index : goal.returns-clause-index
returns-clause-index c = index_example

pub returns-clause-nothing : goal.returns-clause-nothing
returns-clause-nothing c = nothing_fixed_example
