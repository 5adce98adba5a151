use Rattle.pure_unify_answers.proofs.ExampleLaws.{set_example, solves_example, clash_example}
use Rattle.pure_unify_answers.proofs.laws.answer_examples.Goals as goal

pub returns-clause-set : goal.returns-clause-set
returns-clause-set c = set_example

pub returns-clause-clash : goal.returns-clause-clash
returns-clause-clash c = clash_example

pub returns-clause-solves : goal.returns-clause-solves
returns-clause-solves c = solves_example
