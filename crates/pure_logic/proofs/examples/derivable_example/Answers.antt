use Rattle.pure_logic.proofs.NodeExamples.{derivable_example as derivable, open_hypothesis_example, open_promise_example}
use Rattle.pure_logic.proofs.examples.derivable_example.Goals as goal

pub returns-clause-derivable : goal.returns-clause-derivable
returns-clause-derivable c = derivable

pub returns-clause-open_hypothesis : goal.returns-clause-open_hypothesis
returns-clause-open_hypothesis c = open_hypothesis_example

pub returns-clause-open_promise : goal.returns-clause-open_promise
returns-clause-open_promise c = open_promise_example
