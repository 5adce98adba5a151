use Rattle.pure_term_laws.proofs.SubstLaws.{typ_instance-identity, term_instance-identity, inst_term-alone}
use Rattle.pure_term_laws.proofs.laws.identity_changes_nothing.Goals as goal

pub returns-clause-types : goal.returns-clause-types
returns-clause-types c = typ_instance-identity

pub returns-clause-terms : goal.returns-clause-terms
returns-clause-terms c = term_instance-identity

pub returns-clause-alone : goal.returns-clause-alone
returns-clause-alone c = inst_term-alone
