use Rattle.pure_pattern_laws.proofs.ExampleLaws.{pattern_example, agreeing_example, shared_example, put_example, unified_example, clash_example, refused_example}
use Rattle.pure_pattern_laws.proofs.laws.examples.Goals as goal

pub returns-clause-pattern : goal.returns-clause-pattern
returns-clause-pattern c = pattern_example

pub returns-clause-agreeing : goal.returns-clause-agreeing
returns-clause-agreeing c = agreeing_example

pub returns-clause-shared : goal.returns-clause-shared
returns-clause-shared c = shared_example

pub returns-clause-put : goal.returns-clause-put
returns-clause-put c = put_example

pub returns-clause-unified : goal.returns-clause-unified
returns-clause-unified c = unified_example

pub returns-clause-clash : goal.returns-clause-clash
returns-clause-clash c = clash_example

pub returns-clause-refused : goal.returns-clause-refused
returns-clause-refused c = refused_example
