use Rattle.pure_logic.proofs.InstanceLaws.{parts-instance}
use Rattle.pure_logic.proofs.SubstitutionLaws.{certified_of-instance, composed-respects}
use Rattle.pure_logic.proofs.laws.certification_is_kept.Goals as goal

pub returns-clause-parts : goal.returns-clause-parts
returns-clause-parts c = parts-instance

pub returns-clause-instance : goal.returns-clause-instance
returns-clause-instance c = certified_of-instance

pub returns-clause-composed : goal.returns-clause-composed
returns-clause-composed c = λ Q q typs more_typs terms more_terms s r. composed-respects Q q typs more_typs terms more_terms s r
