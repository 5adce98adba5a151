use Rattle.pure_term_laws.proofs.MapLaws.{instances-agree, instance-sent_elsewhere, occurs_in-instance}
use Rattle.pure_term_laws.proofs.laws.instance_by_occurring_variables.Goals as goal

pub returns-clause-agree : goal.returns-clause-agree
returns-clause-agree c = instances-agree

pub returns-clause-elsewhere : goal.returns-clause-elsewhere
returns-clause-elsewhere c = instance-sent_elsewhere

pub returns-clause-occurs : goal.returns-clause-occurs
returns-clause-occurs c = occurs_in-instance
