use Rattle.pure_logic.proofs.FulfilmentExamples.{fulfilled_example, joined_example, growing_example}
use Rattle.pure_logic.proofs.examples.fulfilment_example.Goals as goal

pub returns-clause-fulfilled : goal.returns-clause-fulfilled
returns-clause-fulfilled c = fulfilled_example

pub returns-clause-joined : goal.returns-clause-joined
returns-clause-joined c = joined_example

pub returns-clause-growing : goal.returns-clause-growing
returns-clause-growing c = growing_example
