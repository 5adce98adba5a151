use Rattle.pure_logic.proofs.BuiltFactLaws.{built_facts_are_derivable, built_facts_are_derivable_above, built_facts_are_statements}
use Rattle.pure_logic.proofs.laws.built_facts.Goals as goal

pub returns-clause-pure : goal.returns-clause-pure
returns-clause-pure c = built_facts_are_derivable

pub returns-clause-above : goal.returns-clause-above
returns-clause-above c = built_facts_are_derivable_above

pub returns-clause-statements : goal.returns-clause-statements
returns-clause-statements c = built_facts_are_statements
