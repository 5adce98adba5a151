use Rattle.pure_lookup.proofs.MeaningLaws.{one_meaning as meaning, one_found, one_fact, one_local}
use Rattle.pure_lookup.proofs.laws.one_meaning.Goals as goal

pub returns-clause-meaning : goal.returns-clause-meaning
returns-clause-meaning c = meaning

pub returns-clause-name : goal.returns-clause-name
returns-clause-name c = one_found

pub returns-clause-fact : goal.returns-clause-fact
returns-clause-fact c = one_fact

pub returns-clause-local : goal.returns-clause-local
returns-clause-local c = one_local
