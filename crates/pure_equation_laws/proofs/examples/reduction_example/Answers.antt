use Rattle.pure_equation_laws.proofs.RedexExamples.{normal_form_example, eta_normal_form_example, long_form_equated_example}
use Rattle.pure_equation_laws.proofs.examples.reduction_example.Goals as goal

pub returns-clause-normal : goal.returns-clause-normal
returns-clause-normal c = normal_form_example

pub returns-clause-eta : goal.returns-clause-eta
returns-clause-eta c = eta_normal_form_example

pub returns-clause-long : goal.returns-clause-long
returns-clause-long c = long_form_equated_example
