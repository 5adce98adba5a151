use Rattle.pure_lookup.proofs.ExampleLemmas.{last_example, full_example}
use Rattle.pure_lookup.proofs.SessionExample.{session_example}
use Rattle.pure_lookup.proofs.examples.ancestors_example.Goals as goal

pub returns-clause-last : goal.returns-clause-last
returns-clause-last c = last_example

pub returns-clause-full : goal.returns-clause-full
returns-clause-full c = full_example

pub returns-clause-session : goal.returns-clause-session
returns-clause-session c = session_example
