use Rattle.pure_certify.proofs.TermLemmas.{term_fault-once, faulty-not_certified}
use Rattle.pure_certify.proofs.laws.one_term_fault.Goals as goal

pub returns-clause-one : goal.returns-clause-one
returns-clause-one c = term_fault-once

pub returns-clause-faulty : goal.returns-clause-faulty
returns-clause-faulty c = faulty-not_certified
