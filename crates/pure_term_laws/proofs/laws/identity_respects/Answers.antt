use Rattle.pure_term_laws.proofs.SubstLaws.{identity-respects_sorts, identity-respects_types}
use Rattle.pure_term_laws.proofs.laws.identity_respects.Goals as goal

pub returns-clause-sorts : goal.returns-clause-sorts
returns-clause-sorts c = identity-respects_sorts

pub returns-clause-types : goal.returns-clause-types
returns-clause-types c = identity-respects_types
